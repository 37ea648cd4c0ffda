-- How a header is read that may have a wrong bit: document 01, "Reader". A header is its four bytes as one number of 32
-- bits, the identifier lowest.
-- Assumes nothing.
use Rattle.std.specs.Prelude.{◌≡◌, Bool, true, cond, ℕ, zero, suc, ◌/◌, ◌%◌, ◌^◌, ◌≤◌, ◌<◌, eqb, Option, None, Some}
use Rattle.std.specs.Int.Bits.{bit_xor}
use Rattle.std.specs.Int.Count.{ones}
use Rattle.laws.specs.Reply.{Reply, refused, given}
use Rattle.ecc.specs.CheckBytes.{check_byte}
use Rattle.ecc.specs.declared.ReadHeader.{ReadHeader}
use Rattle.ecc.specs.declared.Uncorrectable.{Uncorrectable}

-- a right header: its check byte is that of its three first bytes
unfoldable pub is_right : ℕ → Bool
is_right header = eqb (header / 2 ^ 24) (check_byte (header % 2 ^ 24))

-- a header with bit i flipped
abbrev pub flipped : ℕ → ℕ → ℕ
flipped header i = bit_xor header (2 ^ i)

-- of the n bits from bit i on, the first that makes the header right when it is flipped; refusal 10: "header beyond
-- repair"
unfoldable pub correct_from : ℕ → ℕ → ℕ → Reply ReadHeader
correct_from header i zero = refused 10
correct_from header i (suc n) =
    cond (is_right (flipped header i)) (given (record { header = flipped header i; corrected = Some i }))
    (correct_from header (suc i) n)

-- "A header is accepted exactly if some right header differs from it in at most one of 32 bits, and it is then read as
-- that one."
unfoldable pub correction_of : ℕ → Reply ReadHeader
correction_of header =
    cond (is_right header) (given (record { header = header; corrected = None })) (correct_from header 0 32)

-- the paper's number
abbrev pub uncorrectable_number : Uncorrectable → ℕ
uncorrectable_number uncorrectable = 10

-- The same sentence, said of any two headers: what is accepted is a right header that differs in at most one bit, and
-- every right header that differs in at most one bit is the one that is read, so there is at most one.
abbrev pub differences : ℕ → ℕ → ℕ
differences a b = ones (bit_xor a b)

abbrev pub AcceptedIsNear : Type 0
AcceptedIsNear =
    (header : ℕ) (read : ReadHeader) → correction_of header ≡ given read
    → (is_right read.header ≡ true) × (differences header read.header ≤ 1)

abbrev pub NearIsRead : Type 0
NearIsRead =
    (header right : ℕ) → header < 2 ^ 32 → right < 2 ^ 32 → is_right right ≡ true → differences header right ≤ 1
    → (corrected : Option ℕ) × (correction_of header ≡ given (record { header = right; corrected = corrected }))

-- and the bit that was flipped is the one that is named
abbrev pub FlippedIsNamed : Type 0
FlippedIsNamed =
    (right i : ℕ) → right < 2 ^ 32 → i < 32 → is_right right ≡ true
    → correction_of (flipped right i) ≡ given (record { header = right; corrected = Some i })

-- and with any two different bits flipped a header is refused: never "taking a double bit error for a single one"
abbrev pub TwoFlippedRefused : Type 0
TwoFlippedRefused =
    (right i j : ℕ) → i < 32 → j < 32 → (i ≡ j → ⊥) → is_right right ≡ true
    → correction_of (flipped (flipped right i) j) ≡ refused 10
