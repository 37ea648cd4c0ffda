-- What the writers answer, and when they refuse (document 01, "Refusal numbers").
-- Assumes nothing.
use Rattle.std.specs.Prelude.{cond, List, ℕ}
use Rattle.laws.specs.Reply.{Reply, refused}
use Rattle.laws.specs.Buffers.{if_room}
use Rattle.formats.specs.declared.Format.{Format}
use Rattle.packing.specs.Raw.{payload_of}
use Rattle.packing.specs.Packing.{pixel_refusal_number, if_width, if_pixels}
use Rattle.csi2.specs.declared.short.FrameSync.{FrameSync}
use Rattle.csi2.specs.declared.short.NoRoom.{NoRoom}
use Rattle.csi2.specs.declared.long.LongRefusal.{LongRefusal}
use Rattle.csi2.specs.declared.long.LongRefusal.TheVariants.{Pixels, ShortType}
use Rattle.csi2.specs.Packets.{is_short, header_bytes, sync_identifier, long_packet}

-- a frame start or end: 8
unfoldable pub short_reply : ℕ → FrameSync → ℕ → ℕ → ℕ → Reply (List ℕ)
short_reply identifier sync number size place = if_room size place (header_bytes (sync_identifier identifier sync) number)

-- a payload in a long packet: 7: "a forwarded line's type is below 0x10"; then 8
unfoldable pub packet_reply : ℕ → List ℕ → ℕ → ℕ → Reply (List ℕ)
packet_reply identifier payload size place =
    cond (is_short identifier) (refused 7) (if_room size place (long_packet identifier payload))

-- a long packet, whether or not its pixels fit the format: 5, 7, 8
unfoldable pub long_packet_reply : Format → List ℕ → ℕ → ℕ → ℕ → Reply (List ℕ)
long_packet_reply format pixels identifier size place =
    if_width format pixels (packet_reply identifier (payload_of format pixels) size place)

-- a pixel line: 5, 6, 7, 8
unfoldable pub pixel_line_reply : Format → List ℕ → ℕ → ℕ → ℕ → Reply (List ℕ)
pixel_line_reply format pixels identifier size place =
    if_pixels format pixels (packet_reply identifier (payload_of format pixels) size place)

-- the paper's numbers
abbrev pub no_room_number : NoRoom → ℕ
no_room_number no-room = 8

abbrev pub long_refusal_number : LongRefusal → ℕ
long_refusal_number (Pixels refusal) = pixel_refusal_number refusal
long_refusal_number ShortType = 7
long_refusal_number LongRefusal.NoRoom = 8
