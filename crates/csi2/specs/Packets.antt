-- The bytes of CSI-2 packets (document 01, "Frames and packets").
-- Assumes nothing.
use Rattle.std.specs.Prelude.{Bool, List, [], ◌∷◌, ◌++◌, ℕ, ◌+◌, ◌*◌, ◌/◌, ◌%◌, leb, length}
use Rattle.ecc.specs.CheckBytes.{check_byte}
use Rattle.crc.specs.Checksum.{crc_of}
use Rattle.csi2.specs.declared.short.FrameSync.{FrameSync}
use Rattle.csi2.specs.declared.short.FrameSync.TheVariants.{FrameStart, FrameEnd}

-- "The type is the identifier's low six bits. Types up to 0x0F are short"
abbrev pub data_type : ℕ → ℕ
data_type identifier = identifier % 64

abbrev pub is_short : ℕ → Bool
is_short identifier = leb (data_type identifier) 0x0F

-- a number of 16 bits (so n / 256 is a byte), "low byte first"
abbrev pub little_endian : ℕ → List ℕ
little_endian n = n % 256 ∷ n / 256 ∷ []

-- "A header is four bytes: identifier, 16-bit count or frame number low byte first, check byte."
unfoldable pub header_bytes : ℕ → ℕ → List ℕ
header_bytes identifier n = (identifier ∷ little_endian n) ++ (check_byte (identifier + 256 * n) ∷ [])

-- "a start or end uses its top two bits (the channel) with type 0x00 or 0x01"
abbrev pub sync_identifier : ℕ → FrameSync → ℕ
sync_identifier identifier FrameStart = identifier / 64 * 64 + 0x00
sync_identifier identifier FrameEnd = identifier / 64 * 64 + 0x01

-- "A line is a header, the payload, and the CSI-2 16-bit checksum [...] low byte first."
unfoldable pub long_packet : ℕ → List ℕ → List ℕ
long_packet identifier payload = header_bytes identifier (length payload) ++ payload ++ little_endian (crc_of payload)
