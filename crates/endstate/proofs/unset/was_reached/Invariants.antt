-- `endstate::unset::was_reached` meets its contract. The loop's invariant: no register so far has an origin.
use Rattle.std.proofs.Common.{◌≡◌, false}
use Rattle.clashes.specs.Addresses.{any_below}
use Rattle.endstate.specs.Unset.{has_origin}
use Rattle.endstate.proofs.unset.was_reached.Given as goal

abbrev pub invariant-loop-offset : goal.invariant-loop-offset
invariant-loop-offset l = any_below (has_origin l.fn.state l.fn.port) l.offset ≡ false
