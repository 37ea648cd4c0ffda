-- The cases that document 01 marks *, as one statement ("Cases to hold against the rules").
-- Assumes nothing.
use Rattle.std.specs.Prelude.{◌≡◌, [], ◌∷◌, ℕ, Option, Some}
use Rattle.laws.specs.Reply.{refused, given}
use Rattle.formats.specs.declared.Format.TheVariants.{Raw10, Raw12}
use Rattle.registers.specs.declared.power_up.PowerUp.TheVariants.{Reset}
use Rattle.hub.specs.declared.Hub.{Hub}
use Rattle.hub.specs.Hubs.{hub_at, hub_burst, hub_read}
use Rattle.ecc.specs.CheckBytes.{check_byte}
use Rattle.packing.specs.Raw.{payload_of}
use Rattle.reader.specs.declared.Packet.{Packet}
use Rattle.reader.specs.Reader.{read_packet}

-- a hub after reset
abbrev reset : Hub
reset = hub_at Reset 0x3D

-- a hub after one register write
abbrev write : ℕ → ℕ → Hub
write offset value = hub_burst reset offset (value ∷ [])

-- the packet 40 01 00
abbrev frame_start : Option ℕ → Packet
frame_start corrected = record { data_identifier = 0x40; word_count = 0x0001; corrected = corrected }

pub record StarredCases : Type 0 where
  -- "0x1F after writing FF reads 03; 0xB6 reads 38; 0x4C reads 3F."
  pub csi_speed : hub_read (write 0x1F 0xFF) 0x1F ≡ 0x03
  pub parity_control : hub_read (write 0xB6 0xFF) 0xB6 ≡ 0x38
  pub port_selection : hub_read (write 0x4C 0xFF) 0x4C ≡ 0x3F
  -- "After reset, writing 58 to 0x58 changes no port; the read shows 18."
  pub no_port_changes : write 0x58 0x58 ≡ reset
  pub still_reset : hub_read (write 0x58 0x58) 0x58 ≡ 0x18
  -- "Header 00 00 00 has check byte 00. 40 01 00 has 0C." (The three bytes are one number here, the identifier lowest.)
  pub zero_header : check_byte 0x000000 ≡ 0x00
  pub start_header : check_byte 0x000140 ≡ 0x0C
  -- "Read 41 01 00 0C: taken as 40 01 00. 40 01 00 4C likewise. 40 01 00 0F: refusal 10."
  pub identifier_bit : read_packet (0x41 ∷ 0x01 ∷ 0x00 ∷ 0x0C ∷ []) ≡ given (frame_start (Some 0))
  pub check_bit : read_packet (0x40 ∷ 0x01 ∷ 0x00 ∷ 0x4C ∷ []) ≡ given (frame_start (Some 30))
  pub two_bits : read_packet (0x40 ∷ 0x01 ∷ 0x00 ∷ 0x0F ∷ []) ≡ refused 10
  -- "RAW10 3FF, 0, 0, 1 gives FF 00 00 00 43. RAW12 ABC, 123 gives AB 12 3C."
  pub raw10 : payload_of Raw10 (0x3FF ∷ 0 ∷ 0 ∷ 1 ∷ []) ≡ 0xFF ∷ 0x00 ∷ 0x00 ∷ 0x00 ∷ 0x43 ∷ []
  pub raw12 : payload_of Raw12 (0xABC ∷ 0x123 ∷ []) ≡ 0xAB ∷ 0x12 ∷ 0x3C ∷ []
