-- `endstate::unset::another_reached` meets its contract. The loop's invariant: none so far is another port that was reached.
use Rattle.std.proofs.Common.{◌≡◌, false}
use Rattle.clashes.specs.Addresses.{any_below}
use Rattle.endstate.specs.Unset.{other_reached}
use Rattle.endstate.proofs.unset.another_reached.Given as goal

abbrev pub invariant-loop-other : goal.invariant-loop-other
invariant-loop-other l = any_below (other_reached l.fn.state l.fn.port) l.other ≡ false
