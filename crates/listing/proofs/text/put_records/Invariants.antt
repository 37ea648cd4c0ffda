use Rattle.std.proofs.Common.{◌≡◌, ◌-◌, List, length}
use Rattle.laws.specs.Reply.{given}
use Rattle.buffers.specs.Putting.{Puts}
use Rattle.registers.specs.Bursts.{RegisterWrite}
use Rattle.listing.specs.Listing.{calls_text, trace_calls}
use Rattle.listing.proofs.TraceLaws.{Passed}
use Rattle.listing.proofs.text.put_records.Given as goal

abbrev pub invariant-loop-from : goal.invariant-loop-from
invariant-loop-from l =
    (length l.out ≡ length l.initial.out)
    × ((calls : List RegisterWrite) → trace_calls l.trace ≡ given calls → (done : List RegisterWrite) × Passed l.trace l.from done × Puts l.initial.out 0 (calls_text done) l.out l.at)

abbrev pub decreases-loop-from : goal.decreases-loop-from
decreases-loop-from l = length l.trace - l.from
