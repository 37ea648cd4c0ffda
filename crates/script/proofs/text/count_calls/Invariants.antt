use mathlib.Core.Path.{◌≡◌}
use mathlib.Core.List.{List}
use Prim.Native.Nat.{◌+◌, ◌-◌, ◌≤◌}
use lib.ListN.{length}
use Rattle.registers.specs.Bursts.{RegisterWrite}
use Rattle.script.proofs.TextLaws.{Passed}
use Rattle.script.proofs.text.count_calls.Given as goal

abbrev pub invariant-loop-at : goal.invariant-loop-at
invariant-loop-at l = (l.at ≤ length l.text) × (l.passed ≤ l.at) × (l.calls ≤ l.at) × ((done : List RegisterWrite) × (l.calls ≡ length done) × Passed l.text l.at (l.passed + 1) done)

abbrev pub decreases-loop-at : goal.decreases-loop-at
decreases-loop-at l = length l.text - l.at
