-- The CSI-2 16-bit checksum of a payload, bit by bit: document 01, "Frames and packets": "(x^16 + x^12 + x^5 + 1, start
-- 0xFFFF, low bit first)".
-- Assumes nothing.
use Rattle.std.specs.Prelude.{List, [], ◌∷◌, ℕ, zero, suc, ◌+◌, ◌*◌, ◌/◌, ◌%◌}
use Rattle.std.specs.Int.Bits.{bit_xor}

-- The polynomial with the term of x^15 in bit 0 and that of x^0 in bit 15, its x^16 left off: x^12 is bit 3, x^5 is bit
-- 10, 1 is bit 15.
abbrev pub polynomial : ℕ
polynomial = 0x8408

-- the register after one more bit: it moves down by one, and where the bit that leaves it differs from the data bit the
-- polynomial is added
unfoldable pub crc_bit : ℕ → ℕ → ℕ
crc_bit register data-bit = bit_xor (register / 2) (polynomial * ((register + data-bit) % 2))

-- the register after the n low bits of a byte, low bit first
unfoldable pub crc_bits : ℕ → ℕ → ℕ → ℕ
crc_bits zero register byte = register
crc_bits (suc n) register byte = crc_bits n (crc_bit register (byte % 2)) (byte / 2)

-- the register after each byte of a list
unfoldable pub crc_from : ℕ → List ℕ → ℕ
crc_from register [] = register
crc_from register (byte ∷ bytes) = crc_from (crc_bits 8 register byte) bytes

-- the checksum of a payload: "start 0xFFFF"; "A count of 0 has checksum 0xFFFF."
unfoldable pub crc_of : List ℕ → ℕ
crc_of payload = crc_from 0xFFFF payload
