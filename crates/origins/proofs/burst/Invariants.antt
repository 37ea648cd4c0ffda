-- `origins::burst` meets its contract. The loop's invariant: the rest of the burst ends as the whole burst does.
use Rattle.std.proofs.Common.{◌≡◌, drop}
use Rattle.origins.specs.NumberedWrites.{numbered_burst}
use Rattle.origins.specs.KeptOrigins.{write_numbered_each}
use Rattle.origins.proofs.burst.Given as goal

abbrev pub invariant-loop-value : goal.invariant-loop-value
invariant-loop-value l =
    write_numbered_each l.next (numbered_burst l.number l.at (drop l.value-index l.values))
    ≡ write_numbered_each l.initial.next (numbered_burst l.number l.offset l.values)
