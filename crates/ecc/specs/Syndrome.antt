-- How the source finds a wrong bit: by the difference between the check byte that a header has and the one that it
-- should have. No rule of the papers.
-- Assumes nothing.
use Rattle.std.specs.Prelude.{ℕ, ◌/◌, ◌%◌, ◌^◌}
use Rattle.std.specs.Int.Bits.{bit_xor}
use Rattle.ecc.specs.CheckBytes.{check_byte}

unfoldable pub syndrome_of : ℕ → ℕ
syndrome_of header = bit_xor (check_byte (header % 2 ^ 24)) (header / 2 ^ 24)

-- the difference that bit i alone makes
unfoldable pub column_of : ℕ → ℕ
column_of i = syndrome_of (2 ^ i)
