use Rattle.std.proofs.Common.{◌≡◌, ℕ, List, ◌++◌, drop}
use Rattle.buffers.specs.Putting.{Puts}
use Rattle.registers.specs.Bursts.{burst_writes}
use Rattle.listing.specs.Listing.{calls_text}
use Rattle.listing.proofs.text.put_burst.Given as goal

abbrev pub invariant-loop-value : goal.invariant-loop-value
invariant-loop-value l =
    (done : List ℕ) × Puts l.initial.out l.at done l.out l.place × (calls_text (burst_writes l.offset l.values) ≡ done ++ calls_text (burst_writes l.next (drop l.value-index l.values)))
