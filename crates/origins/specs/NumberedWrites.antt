-- Register writes with a number: "A script's register writes are numbered by their line (a trace's by their record)."
-- Assumes nothing.
use Rattle.std.specs.Prelude.{ℕ, List, [], ◌∷◌}
use mathlib.Core.List.{Memᴰ}
use Rattle.registers.specs.Bursts.{RegisterWrite, burst_writes}
use Rattle.origins.specs.declared.NumberedWrite.{NumberedWrite}

-- the write without its number, and so each of a list
abbrev pub unnumbered : NumberedWrite → RegisterWrite
unnumbered write = record { offset = write.offset; value = write.value }

unfoldable pub unnumbered_writes : List NumberedWrite → List RegisterWrite
unnumbered_writes [] = []
unnumbered_writes (write ∷ writes) = unnumbered write ∷ unnumbered_writes writes

-- writes that have one number: those of a burst, which is one record of a trace
unfoldable pub numbered_as : ℕ → List RegisterWrite → List NumberedWrite
numbered_as number [] = []
numbered_as number (write ∷ writes) =
    record { number = number; offset = write.offset; value = write.value } ∷ numbered_as number writes

abbrev pub numbered_burst : ℕ → ℕ → List ℕ → List NumberedWrite
numbered_burst number offset values = numbered_as number (burst_writes offset values)

-- What the numbers mean, where `Stands` says that a write stands in the line, or the record, that has its number: each
-- of the writes so stands, and every write that so stands is there.
pub record NumbersMean (Stands : NumberedWrite → Type 0) (writes : List NumberedWrite) : Type 0 where
  pub only : (write : NumberedWrite) → Memᴰ write writes → Stands write
  pub every : (write : NumberedWrite) → Stands write → Memᴰ write writes
