-- Laws of the records of a trace.
-- Assumes nothing.
use Rattle.std.specs.Prelude.{◌≡◌, Bool, true, List, ◌++◌, ℕ, ◌+◌, ◌≤◌, ◌<◌, length, get_or}
use Rattle.trace.specs.Framing.{record_length, holds_record, record_bytes, longest_record}
use Rattle.trace.specs.Records.{kind_record, record_of}

-- whatever follows a record, it is read by its kind and its data, and has 4 bytes more than those
abbrev pub ReadsBack : Type 0
ReadsBack =
    (first : Bool) (kind : ℕ) (bytes rest : List ℕ)
    → (record_of first (record_bytes kind bytes ++ rest) ≡ kind_record first kind bytes)
    × (record_length (record_bytes kind bytes ++ rest) ≡ 4 + length bytes)

-- where a window on a file holds the whole next record, the record is that of the file, whatever follows the window
abbrev pub SameRecord : Type 0
SameRecord =
    (first : Bool) (window rest : List ℕ) → holds_record window ≡ true
    → (record_of first (window ++ rest) ≡ record_of first window) × (record_length (window ++ rest) ≡ record_length window)

-- no record is longer than `longest_record`, its length byte being a byte, so that as many bytes hold the next one
abbrev pub LongestRecord : Type 0
LongestRecord = (bytes : List ℕ) → get_or bytes 3 0 < 256 → longest_record ≤ length bytes → holds_record bytes ≡ true
