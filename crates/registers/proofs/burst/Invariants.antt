-- `registers::burst` meets its contract. The loop's invariant: the rest of the burst ends as the whole burst does.
use mathlib.Core.Path.{◌≡◌}
use lib.ListN.{drop}
use Rattle.registers.specs.Bursts.{write_burst}
use Rattle.registers.proofs.burst.Given as goal

abbrev pub invariant-loop-value : goal.invariant-loop-value
invariant-loop-value l =
    write_burst l.access l.next l.at (drop l.value-index l.values) ≡ write_burst l.access l.initial.next l.offset l.values
