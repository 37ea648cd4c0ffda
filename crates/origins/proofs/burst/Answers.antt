-- `origins::burst` meets its contract. The loop's invariant: the rest of the burst ends as the whole burst does.
use Rattle.std.proofs.Common.{add-one, arith, drop_of_length-le, drop-cons}
use Rattle.registers.specs.Bursts.{burst_writes}
use Rattle.origins.specs.NumberedWrites.{numbered_as}
use Rattle.origins.specs.KeptOrigins.{write_numbered_each}
use Rattle.origins.proofs.burst.Goals as goal

pub loop-value-preserved : goal.loop-value-preserved
unfolding write_numbered_each numbered_as burst_writes
loop-value-preserved c =
    let l = c.loop-value in
    rw (c.write-next.ensures, add-one l.value-index)
    (rw (drop-cons c.args.values.now l.value-index 0 (omega arith)) at l.invariant)

pub returns : goal.returns
unfolding write_numbered_each numbered_as burst_writes
returns c =
    rw (drop_of_length-le c.args.values.now {i = c.loop-value.value-index} (omega arith)) at c.loop-value.invariant
