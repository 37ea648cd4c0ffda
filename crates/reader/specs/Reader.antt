-- The packet reader: document 01, "Reader" and "Refusal numbers".
-- Assumes nothing.
use Rattle.std.specs.Prelude.{Bool, cond, List, ℕ, ◌+◌, ◌*◌, ◌/◌, ◌%◌, ◌^◌, ltb, eqb, length, get_or, take, drop}
use Rattle.laws.specs.Reply.{Reply, refused, refused_with, given, and_then}
use Rattle.ecc.specs.declared.ReadHeader.{ReadHeader}
use Rattle.ecc.specs.HeaderCorrection.{correction_of}
use Rattle.crc.specs.Checksum.{crc_of}
use Rattle.reader.specs.declared.Packet.{Packet}
use Rattle.reader.specs.declared.PacketRefusal.{PacketRefusal}
use Rattle.reader.specs.declared.PacketRefusal.TheVariants.{Truncated, HeaderUncorrectable, ChecksumWrong}
use Rattle.csi2.specs.Packets.{is_short}

-- "A header is four bytes: identifier, 16-bit count or frame number low byte first, check byte": as one number, and
-- back
abbrev pub header_number : List ℕ → ℕ
header_number bytes = get_or bytes 0 0 + 2 ^ 8 * get_or bytes 1 0 + 2 ^ 16 * get_or bytes 2 0 + 2 ^ 24 * get_or bytes 3 0

abbrev pub header_packet : ReadHeader → Packet
header_packet read =
    record {
      data_identifier = read.header % 2 ^ 8;
      word_count = read.header / 2 ^ 8 % 2 ^ 16;
      corrected = read.corrected;
    }

-- the two bytes after the payload are its checksum, "low byte first"
abbrev pub checksum_matches : List ℕ → ℕ → Bool
checksum_matches body count = eqb (get_or body count 0 + 2 ^ 8 * get_or body (count + 1) 0) (crc_of (take count body))

-- After the header: "Types up to 0x0F are short, four bytes, payload empty; others have 4 + count + 2." 12: "fewer than
-- the header asks"; 11: "checksum wrong"
unfoldable pub read_body : List ℕ → Packet → Reply Packet
read_body body packet =
    cond (is_short packet.data_identifier) (given packet)
    (cond (ltb (length body) (packet.word_count + 2)) (refused 12)
    (cond (checksum_matches body packet.word_count) (given packet) (refused 11)))

-- "Given bytes, it takes the packet at their start." "Reader: 12 (under four), 10, 12, 11."
unfoldable pub read_packet : List ℕ → Reply Packet
read_packet bytes =
    cond (ltb (length bytes) 4) (refused 12)
    (and_then (correction_of (header_number bytes)) (λ read. read_body (drop 4 bytes) (header_packet read)))

-- how many bytes the payload has: none on refusal, and none of a short packet
abbrev pub payload_count : Reply Packet → ℕ
payload_count (refused_with number detail) = 0
payload_count (given packet) = cond (is_short packet.data_identifier) 0 packet.word_count

-- "The payload is handed back as a part of the caller's bytes (by a question of its own; empty on refusal)."
abbrev pub payload_read : List ℕ → List ℕ
payload_read bytes = take (payload_count (read_packet bytes)) (drop 4 bytes)

-- the paper's numbers
abbrev pub packet_refusal_number : PacketRefusal → ℕ
packet_refusal_number Truncated = 12
packet_refusal_number HeaderUncorrectable = 10
packet_refusal_number ChecksumWrong = 11
