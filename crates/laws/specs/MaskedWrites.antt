-- A write to a register of eight bits under a mask of its writable bits.
-- Assumes nothing.
use Rattle.std.specs.Prelude.{ℕ, ◌-◌}
use Rattle.std.specs.Int.Bits.{bit_and, bit_or}

-- Document 01, "The register file": the write "takes the masked bits from the value and keeps the rest".
unfoldable pub masked : ℕ → ℕ → ℕ → ℕ
masked mask old value = bit_or (bit_and value mask) (bit_and old (255 - mask))
