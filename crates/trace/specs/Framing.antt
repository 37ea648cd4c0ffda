-- How a record of a trace is framed: document 01, "The trace and the player".
-- Assumes nothing.
use Rattle.std.specs.Prelude.{Bool, ◌&&◌, List, ◌∷◌, ℕ, ◌+◌, eqb, leb, length, get_or, take, drop}
use Rattle.trace.specs.declared.framing.Framing.{Framing}

-- "Each record has the two-byte mark 9A 64, a kind byte, a length byte n, then n bytes":
-- where the n bytes of its data start, and n. (A byte that is missing counts as 0.)
unfoldable pub framing_of : List ℕ → Framing
framing_of bytes = record { start = 4; count = get_or bytes 3 0 }

abbrev pub has_mark : List ℕ → Bool
has_mark bytes = eqb (get_or bytes 0 0) 0x9A && eqb (get_or bytes 1 0) 0x64

abbrev pub kind_byte : List ℕ → ℕ
kind_byte bytes = get_or bytes 2 0

unfoldable pub data_of : List ℕ → List ℕ
data_of bytes = take (framing_of bytes).count (drop (framing_of bytes).start bytes)

abbrev pub record_length : List ℕ → ℕ
record_length bytes = (framing_of bytes).start + (framing_of bytes).count

-- the bytes hold a whole record: it is not "cut short"
abbrev pub holds_record : List ℕ → Bool
holds_record bytes = leb (record_length bytes) (length bytes)

-- a record as bytes
abbrev pub record_bytes : ℕ → List ℕ → List ℕ
record_bytes kind bytes = 0x9A ∷ 0x64 ∷ kind ∷ length bytes ∷ bytes

-- no record has more bytes than this
abbrev pub longest_record : ℕ
longest_record = 259
