use Rattle.std.proofs.Common.{◌≡◌, ◌-◌, ◌≤◌, List, length}
use Rattle.registers.specs.Bursts.{RegisterWrite}
use Rattle.listing.proofs.TraceLaws.{Passed}
use Rattle.listing.proofs.count_calls.Given as goal

abbrev pub invariant-loop-from : goal.invariant-loop-from
invariant-loop-from l = (l.from ≤ length l.trace) × (l.total ≤ l.from) × ((done : List RegisterWrite) × (l.total ≡ length done) × Passed l.trace l.from done)

abbrev pub decreases-loop-from : goal.decreases-loop-from
decreases-loop-from l = length l.trace - l.from
