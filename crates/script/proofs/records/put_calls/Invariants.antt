use mathlib.Core.List.{List}
use Prim.Native.Nat.{ℕ, ◌-◌, ◌≤◌}
use lib.ListN.{length}
use Rattle.buffers.specs.Putting.{Puts}
use Rattle.registers.specs.Bursts.{RegisterWrite}
use Rattle.script.specs.Traces.{write_records}
use Rattle.script.proofs.TextLaws.{Passed}
use Rattle.script.proofs.records.put_calls.Given as goal

abbrev pub invariant-loop-from : goal.invariant-loop-from
invariant-loop-from l =
    (l.from ≤ length l.text)
    × ((number : ℕ) × (done : List RegisterWrite) × Passed l.text l.from number done × Puts l.initial.out l.at (write_records done) l.out l.next)

abbrev pub decreases-loop-from : goal.decreases-loop-from
decreases-loop-from l = length l.text - l.from
