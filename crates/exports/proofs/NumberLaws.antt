-- The number of every answer is unambiguous.
-- Assumes nothing.
use mathlib.Core.Path.{◌≡◌, refl, ap}
use mathlib.Core.Bool.{Bool, true, false, cond}
use mathlib.Core.List.{List}
use Prim.Native.Nat.{ℕ, ◌+◌, ◌*◌, ◌/◌, ◌%◌, ◌^◌, ◌≤◌, ◌<◌}
use native.Mathlib.Numerals.{one-add}
use native.Mathlib.Omega.{arith}
use borrow.Author.Tests.{ne_eqb}
use lib.Bits.{xor_lt}
use lib.Dec.{ltb}
use lib.ListN.{length, drop}
use lib.Pow.{pow-lt}
use Rattle.laws.specs.Reply.{Reply, refused, refused_with, given, on_reply, and_then}
use Rattle.laws.specs.Buffers.{has_room, if_room, count_of}
use Rattle.laws.proofs.Replies.{room_by}
use Rattle.formats.specs.declared.Format.{Format}
use Rattle.formats.specs.Formats.{format_of}
use Rattle.formats.proofs.FormatLaws.{by_format}
use Rattle.std.specs.Prelude.{Option, None, Some, Result, Ok, Err}
use Rattle.ecc.specs.declared.ReadHeader.{ReadHeader}
use Rattle.ecc.specs.HeaderCorrection.{flipped, correction_of}
use Rattle.ecc.proofs.Near.{by_correction}
use Rattle.packing.specs.declared.check.PixelRefusal.{PixelRefusal}
use Rattle.packing.specs.declared.check.PixelRefusal.TheVariants.{WidthNotAllowed, PixelTooLarge}
use Rattle.packing.specs.Raw.{payload_of}
use Rattle.packing.specs.Packing.{check_of, after_check, if_pixels, pack_reply}
use Rattle.packing.proofs.RawLaws.{length_payload, payload_small}
use Rattle.packing.proofs.CheckLaws.{allowed_small, good_width}
use Rattle.unpacking.specs.Pixels.{pixels_of}
use Rattle.unpacking.specs.Unpacking.{payload_allowed, unpack_reply}
use Rattle.unpacking.proofs.PixelLaws.{length_pixels}
use Rattle.unpacking.proofs.AnswerLaws.{unpack_unknown, unpack_by}
use Rattle.unpacking.proofs.RoundLaws.{payload_tells}
use Rattle.csi2.specs.Packets.{is_short}
use Rattle.csi2.specs.Writers.{packet_reply, pixel_line_reply}
use Rattle.csi2.proofs.WriterLaws.{length-packet}
use Rattle.reader.specs.declared.Packet.{Packet}
use Rattle.reader.specs.Reader.{header_number, header_packet, checksum_matches, read_body, read_packet}
use Rattle.exports.specs.Numbers.{corrected_number, correction_number, packet_number}
use Rattle.exports.specs.Numbers.{corrected_of_number, correction_of_number, packet_of_number}
use Rattle.exports.specs.Numbers.{InBounds, Unambiguous, NumbersUnambiguous}

-- what holds of both answers of a test holds of its answer
either : {A : Type 0} (P : A → Type 0) (b : Bool) {x y : A} → P x → P y → P (cond b x y)
either P true p q = p
either P false p q = q

-- a reply in bounds is the one of its number
unambiguous : (most : ℕ) → most < 2 ^ 56 → (reply : Reply ℕ) → InBounds most reply → Unambiguous most reply
unambiguous most small (refused_with number detail) h =
    let n : number * 2 ^ 56 / 2 ^ 56 ≡ number = omega arith in
    record { bounds = h; comes_back = rw (n, ne_eqb number 0 (λ z. omega arith), h.2) }
unambiguous most small (given value) h = let z : value / 2 ^ 56 ≡ 0 = omega arith in record { bounds = h; comes_back = rw z }

-- counts of bytes and pixels, by the tests for room and for good pixels
module _ (most : ℕ) where
  abbrev CountIn : Reply (List ℕ) → Type 0
  CountIn reply = InBounds most (count_of reply)

  room_in : (size place : ℕ) (bytes : List ℕ) → length bytes ≤ most → CountIn (if_room size place bytes)
  room_in size place bytes h =
      rw (room_by size place bytes (length bytes) refl refl)
      (either CountIn (has_room size place (length bytes)) h (omega arith, omega arith, refl))

  check_in : (check : Result Unit PixelRefusal) (next : Reply (List ℕ)) → (check ≡ Ok tt → CountIn next) → CountIn (after_check check next)
  check_in (Err WidthNotAllowed) next p = (omega arith, omega arith, refl)
  check_in (Err PixelTooLarge) next p = (omega arith, omega arith, refl)
  check_in (Ok tt) next p = p refl

  pixels_in : (format : Format) (pixels : List ℕ) (next : Reply (List ℕ)) → (length pixels ≤ 4096 → CountIn next)
      → CountIn (if_pixels format pixels next)
  pixels_in format pixels next p = check_in (check_of format pixels) next (λ good. p (allowed_small format (length pixels) (good_width format pixels good)))

payload_most : (format : Format) (pixels : List ℕ) → length pixels ≤ 4096 → length (payload_of format pixels) ≤ 6144
payload_most format pixels h = rw (length_payload format pixels) (payload_small format (length pixels) h)

packed_in : (format : Format) (pixels : List ℕ) (size place : ℕ) → CountIn 6144 (pack_reply format pixels size place)
unfolding pack_reply
packed_in format pixels size place = pixels_in 6144 format pixels _ (λ h. room_in 6144 size place _ (payload_most format pixels h))

line_in : (format : Format) (pixels : List ℕ) (identifier size place : ℕ) → CountIn 6150 (pixel_line_reply format pixels identifier size place)
unfolding pixel_line_reply packet_reply
line_in format pixels identifier size place =
    pixels_in 6150 format pixels _ (λ h.
    let l = length-packet identifier (payload_of format pixels) in
    let m = payload_most format pixels h in
    either (CountIn 6150) (is_short identifier) (omega arith, omega arith, refl) (room_in 6150 size place _ (omega arith)))

unpacked_in : (bits : ℕ) (payload : List ℕ) (size : ℕ) → CountIn 4096 (unpack_reply bits payload size)
unpacked_in bits payload size =
    by_format (λ reply. format_of bits ≡ reply → CountIn 4096 (unpack_reply bits payload size))
    (λ unknown. rw (unpack_unknown bits payload size unknown) (omega arith, omega arith, refl))
    (λ format known. rw (unpack_by bits payload size format known refl) (go format (payload_allowed format (length payload)) refl)) bits refl
  where
    go : (format : Format) (b : Bool) → payload_allowed format (length payload) ≡ b
        → CountIn 4096 (cond b (if_room size 0 (pixels_of format payload)) (refused 17))
    go format true e = room_in 4096 size 0 (pixels_of format payload) (rw (length_pixels format payload) (payload_tells format (length payload) e).2)
    go format false e = (omega arith, omega arith, refl)

-- the bit that was wrong
bit_back : (corrected : Option ℕ) → corrected_of_number (corrected_number corrected) ≡ corrected
bit_back None = refl
bit_back (Some bit) = ap corrected_of_number (one-add bit)

-- headers
abbrev HeaderIn : Reply ReadHeader → Type 0
HeaderIn reply = InBounds (2 ^ 38) (on_reply correction_number reply) × (on_reply correction_of_number (on_reply correction_number reply) ≡ reply)

header_in : (header : ℕ) (corrected : Option ℕ) → header < 2 ^ 32 → corrected_number corrected ≤ 32
    → HeaderIn (given (record { header = header; corrected = corrected }))
header_in header corrected h b =
    let value = correction_number (record { header = header; corrected = corrected }) in
    let low : value % 2 ^ 32 ≡ header = omega arith in
    let high : value / 2 ^ 32 ≡ corrected_number corrected = omega arith in
    (omega arith, rw (low, high, bit_back corrected))

correction_in : (header : ℕ) → header < 2 ^ 32 → HeaderIn (correction_of header)
correction_in header h =
    by_correction header HeaderIn ((omega arith, omega arith, refl), refl)
    (λ i l r. header_in (flipped header i) (Some i) (xor_lt 32 header (2 ^ i) h (pow-lt l)) (omega arith))
    (λ r. header_in header None h (omega arith))

-- packets
abbrev PacketIn : Reply Packet → Type 0
PacketIn reply = InBounds (2 ^ 30) (on_reply packet_number reply) × (on_reply packet_of_number (on_reply packet_number reply) ≡ reply)

packet_in : (header : ℕ) (corrected : Option ℕ) → corrected_number corrected ≤ 32
    → PacketIn (given (header_packet (record { header = header; corrected = corrected })))
packet_in header corrected b =
    let packet = header_packet (record { header = header; corrected = corrected }) in
    let value = packet_number packet in
    let low : value % 2 ^ 8 ≡ packet.data_identifier = omega arith in
    let above : value / 2 ^ 8 ≡ packet.word_count + 2 ^ 16 * corrected_number corrected = omega arith in
    let middle : (packet.word_count + 2 ^ 16 * corrected_number corrected) % 2 ^ 16 ≡ packet.word_count = omega arith in
    let high : value / 2 ^ 24 ≡ corrected_number corrected = omega arith in
    (omega arith, rw (low, above, middle, high, bit_back corrected))

body_in : (body : List ℕ) (packet : Packet) → PacketIn (given packet) → PacketIn (read_body body packet)
unfolding read_body
body_in body packet p =
    either PacketIn (is_short packet.data_identifier) p
    (either PacketIn (ltb (length body) (packet.word_count + 2)) ((omega arith, omega arith, refl), refl)
    (either PacketIn (checksum_matches body packet.word_count) p ((omega arith, omega arith, refl), refl)))

read_in : (bytes : List ℕ) → PacketIn (read_packet bytes)
unfolding read_packet
read_in bytes =
    either PacketIn (ltb (length bytes) 4) ((omega arith, omega arith, refl), refl)
    (by_correction (header_number bytes) (λ reply. PacketIn (and_then reply (λ read. read_body (drop 4 bytes) (header_packet read))))
    ((omega arith, omega arith, refl), refl)
    (λ i l r. body_in (drop 4 bytes) _ (packet_in (flipped (header_number bytes) i) (Some i) (omega arith)))
    (λ r. body_in (drop 4 bytes) _ (packet_in (header_number bytes) None (omega arith))))

pub numbers_unambiguous : NumbersUnambiguous
numbers_unambiguous =
    record {
      packed = λ format pixels size place. unambiguous 6144 (omega arith) _ (packed_in format pixels size place);
      unpacked = λ bits payload size. unambiguous 4096 (omega arith) _ (unpacked_in bits payload size);
      pixel_line = λ format pixels identifier size place. unambiguous 6150 (omega arith) _ (line_in format pixels identifier size place);
      correction = λ header h. let i = correction_in header h in record { value = unambiguous (2 ^ 38) (omega arith) _ i.0; parts = i.1 };
      packet = λ bytes. let i = read_in bytes in record { value = unambiguous (2 ^ 30) (omega arith) _ i.0; parts = i.1 };
    }
