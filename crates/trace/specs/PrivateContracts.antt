-- How the contracts of private functions are stated: no rule of the papers.
-- Assumes nothing.
use Rattle.std.specs.Prelude.{◌≡◌, List, ℕ, ◌≤◌}
use Rattle.trace.specs.declared.framing.Framing.{Framing}
use Rattle.trace.specs.declared.DataLengths.{DataLengths}
use Rattle.trace.specs.Framing.{framing_of, record_length, longest_record}
use Rattle.trace.specs.Records.{KindRow}

-- the framing of the record at the start of the bytes, which has a place for its end
pub record FramedAs (bytes : List ℕ) (framing : Framing) : Type 0 where
  pub start : framing.start ≡ (framing_of bytes).start
  pub count : framing.count ≡ (framing_of bytes).count
  pub small : record_length bytes ≤ longest_record

-- the lengths of a row of the table of kinds
pub record LengthsOf (row : KindRow) (lengths : DataLengths) : Type 0 where
  pub least : lengths.least ≡ row.least
  pub most : lengths.most ≡ row.most
