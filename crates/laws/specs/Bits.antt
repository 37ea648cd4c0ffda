-- The bits of a number, the lowest is bit 0.
-- Assumes nothing.
use Rattle.std.specs.Prelude.{Bool, ℕ, ◌/◌, ◌%◌, ◌^◌, eqb}

-- bit k of x as a digit, 0 or 1
abbrev pub digit : ℕ → ℕ → ℕ
digit k x = x / 2 ^ k % 2

-- bit k of x is set
unfoldable pub bit : ℕ → ℕ → Bool
bit k x = eqb (digit k x) 1
