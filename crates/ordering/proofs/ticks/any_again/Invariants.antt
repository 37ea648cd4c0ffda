-- `ordering::ticks::any_again` meets its contract. The loop's invariant: none of the ports below is ticked again.
use Rattle.std.proofs.Common.{◌≡◌, ℕ, ◌<◌, false}
use Rattle.ordering.specs.Ticks.{ticks_again}
use Rattle.ordering.proofs.ticks.any_again.Given as goal

abbrev pub invariant-loop-port : goal.invariant-loop-port
invariant-loop-port l = (port : ℕ) → port < l.port → ticks_again l.fn.ticks l.fn.value port ≡ false
