-- The check byte worked out from one constant for each data bit: L4. The constant of a bit is its column where document
-- 01's lists P0 to P5 are the rows.
-- Assumes nothing.
use Rattle.std.specs.Prelude.{◌≡◌, cond, ℕ, zero, suc, ◌^◌}
use Rattle.std.specs.Int.Bits.{bit_xor}
use Rattle.laws.specs.Bits.{bit}
use Rattle.ecc.specs.CheckBytes.{check_byte}

-- the constant of data bit i, D0 to D23: the check byte of the three bytes in which that bit alone is 1
unfoldable pub data_column : ℕ → ℕ
data_column i = check_byte (2 ^ i)

-- "the exclusive-or of constants, one for each data bit that is 1": of the first n data bits
unfoldable pub xor_of_columns : ℕ → ℕ → ℕ
xor_of_columns zero word = 0
xor_of_columns (suc n) word = cond (bit n word) (bit_xor (xor_of_columns n word) (data_column n)) (xor_of_columns n word)

-- "Document 01's counts of ones stay as the rule it is proved to equal."
abbrev pub XorIsCounts : Type 0
XorIsCounts = (word : ℕ) → xor_of_columns 24 word ≡ check_byte word
