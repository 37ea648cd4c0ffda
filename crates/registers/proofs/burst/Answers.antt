-- `registers::burst` meets its contract. The loop's invariant: the rest of the burst ends as the whole burst does.
use native.Mathlib.Numerals.{add-one}
use lib.ListN.{drop_of_length-le}
use lib.Seq.{drop-cons}
use Rattle.registers.specs.Bursts.{burst_writes, write_each, write_burst}
use native.Mathlib.Omega.{arith}
use Rattle.registers.proofs.burst.Goals as goal

pub loop-value-preserved : goal.loop-value-preserved
unfolding write_burst write_each burst_writes
loop-value-preserved c =
    let l = c.loop-value in
    rw (c.next_offset-at.ensures, c.write-next.ensures, add-one l.value-index)
    (rw (drop-cons c.args.values.now l.value-index 0 (omega arith)) at l.invariant)

pub returns : goal.returns
unfolding write_burst write_each burst_writes
returns c =
    rw (drop_of_length-le c.args.values.now {i = c.loop-value.value-index} (omega arith))
    at c.loop-value.invariant
