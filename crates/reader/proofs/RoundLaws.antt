-- What is written is read back: the reader's answers about a long packet, a frame start and a frame end, also with bits of the header flipped.
-- Assumes nothing.
use mathlib.Core.Path.{◌≡◌, refl, sym, ap, ap₂, ◌∙◌}
use mathlib.Core.Bool.{true, false, cond}
use mathlib.Core.List.{List, [], ◌∷◌, ◌++◌}
use Prim.Native.Nat.{ℕ, ◌+◌, ◌*◌, ◌/◌, ◌%◌, ◌^◌, ◌≤◌, ◌<◌}
use native.Mathlib.Omega.{arith}
use borrow.Author.Tests.{eq-eqb, le-leb, leb-true}
use lib.ListN.{length, get_or, take, drop, length-append}
use lib.Seq.{take-append_seam, get_or-append_seam, get_or-append-add}
use Rattle.laws.specs.Reply.{given}
use Rattle.laws.specs.Buffers.{written}
use Rattle.laws.proofs.Buffers.{drop-written}
use Rattle.std.specs.Prelude.{Option, None, Some}
use Rattle.crc.specs.Checksum.{crc_of}
use Rattle.csi2.specs.declared.short.FrameSync.{FrameSync}
use Rattle.csi2.specs.declared.short.FrameSync.TheVariants.{FrameStart, FrameEnd}
use Rattle.packing.specs.Raw.{payload_of}
use Rattle.csi2.specs.Packets.{is_short, little_endian, header_bytes, sync_identifier, long_packet}
use Rattle.csi2.proofs.WriterLaws.{header_then, packet_then, short_given, long_given, pixel_line_given}
use Rattle.reader.specs.Reader.{checksum_matches, read_body, read_packet, payload_count}
use Rattle.reader.specs.RoundTrip.{ReadsWith, ReadsAs, PixelLineReadsBack, PixelLineUnpacks, LongPacketReadsBack, LongPacketUnpacks, ShortReadsBack}
use Rattle.packing.proofs.RawLaws.{length_payload, payload_small}
use Rattle.unpacking.specs.Unpacking.{unpack_reply}
use Rattle.unpacking.proofs.RoundLaws.{payload_unpacks}
use Rattle.packing.proofs.CheckLaws.{allowed_small}
use Rattle.reader.proofs.ReaderLaws.{short_accepted, body_whole}
use Rattle.reader.proofs.FlippedLaws.{packet_of, written_read, drop-flipped, flipped_read, two_flipped_read}

-- a packet is read back if what stands after its header is accepted, whichever bit of the header was corrected
module _ (identifier n : ℕ) (rest payload : List ℕ)
    (accepted : (corrected : Option ℕ) → read_body rest (packet_of identifier n corrected) ≡ given (packet_of identifier n corrected))
    (found : take (cond (is_short identifier) 0 n) rest ≡ payload) where
  -- the answers about any bytes that have the rest after their header and are answered as the packet
  reads_with : (corrected : Option ℕ) (read : List ℕ) → read_packet read ≡ read_body rest (packet_of identifier n corrected) → drop 4 read ≡ rest
      → ReadsWith corrected read identifier n payload
  reads_with corrected read e body =
      let answer = e ∙ accepted corrected in
      (answer, ap₂ take (ap payload_count answer) body ∙ found)

  -- as it was written, with one bit flipped, and with two
  reads_as : identifier < 256 → n < 65536 → ReadsAs (header_bytes identifier n ++ rest) identifier n payload
  reads_as hi hn =
      rw (header_then identifier n rest) (
        reads_with None _ (written_read identifier n rest hi hn) refl,
        λ i h. reads_with (Some i) _ (flipped_read identifier n rest hi hn i h) (drop-flipped identifier n rest hi hn i h),
        two_flipped_read identifier n rest hi hn,
      )

-- a short packet is read back, with no payload
short_reads : (identifier n : ℕ) (rest : List ℕ) → identifier < 256 → n < 65536 → is_short identifier ≡ true
    → ReadsAs (header_bytes identifier n ++ rest) identifier n []
short_reads identifier n rest hi hn short =
    reads_as identifier n rest [] (λ corrected. short_accepted rest (packet_of identifier n corrected) short) (rw short) hi hn

-- what stands after the header of a long packet: the payload, its checksum, and anything
module _ (payload tail : List ℕ) where
  abbrev body : List ℕ
  body = payload ++ (little_endian (crc_of payload) ++ tail)

  -- the payload is its start
  body_payload : take (length payload) body ≡ payload
  body_payload = take-append_seam payload (little_endian (crc_of payload) ++ tail)

  -- it has the two bytes of the checksum
  body_length : length payload + 2 ≤ length body
  body_length = omega (arith, length-append payload (little_endian (crc_of payload) ++ tail))

  -- the checksum is that of the payload
  body_matches : checksum_matches body (length payload) ≡ true
  body_matches =
      let n = length payload in
      let sum = crc_of payload in
      let low : get_or body n 0 ≡ sum % 256 = get_or-append_seam payload (sum % 256) (sum / 256 ∷ tail) 0 in
      let high : get_or body (n + 1) 0 ≡ sum / 256 = get_or-append-add payload (little_endian sum ++ tail) 1 0 in
      let stored : get_or body n 0 + 2 ^ 8 * get_or body (n + 1) 0 ≡ sum = omega arith in
      eq-eqb (get_or body n 0 + 2 ^ 8 * get_or body (n + 1) 0) (crc_of (take n body)) (stored ∙ ap crc_of (sym body_payload))

  -- a long packet is read back
  long_reads : (identifier : ℕ) → identifier < 256 → length payload < 65536 → is_short identifier ≡ false
      → ReadsAs (long_packet identifier payload ++ tail) identifier (length payload) payload
  long_reads identifier hi hn long =
      rw (packet_then identifier payload tail)
      (reads_as identifier (length payload) body payload
      (λ corrected. body_whole body (packet_of identifier (length payload) corrected) long body_length body_matches)
      (rw (long, body_payload)) hi hn)

-- a packet that was written is read from its place
from_place : (packet bytes buffer payload : List ℕ) (place identifier n : ℕ) → packet ≡ bytes → place + length packet ≤ length buffer
    → ReadsAs (packet ++ drop (place + length packet) buffer) identifier n payload → ReadsAs (drop place (written buffer place bytes)) identifier n payload
from_place packet bytes buffer payload place identifier n e room reads = rw (sym e, drop-written buffer place packet room) reads

-- every long packet that is written is read back from its place
pub long_packet_reads_back : LongPacketReadsBack
long_packet_reads_back format pixels identifier place buffer bytes hi e =
    let payload = payload_of format pixels in
    let packet = long_packet identifier payload in
    let by = long_given format pixels identifier (length buffer) place e in
    let l = length_payload format pixels in
    let small = payload_small format (length pixels) (allowed_small format (length pixels) by.0) in
    from_place packet bytes buffer payload place identifier (length payload) by.3 (leb-true (place + length packet) (length buffer) by.2)
    (long_reads payload (drop (place + length packet) buffer) identifier hi (omega arith) by.1)

-- and its payload, as it is read, is unpacked to its pixels, where they fit
pub long_packet_unpacks : LongPacketUnpacks
long_packet_unpacks bits format pixels identifier place size buffer bytes known hi fit e =
    ap (λ (l : List ℕ). unpack_reply bits l size) (long_packet_reads_back format pixels identifier place buffer bytes hi e).0.1
    ∙ payload_unpacks bits format pixels size known (long_given format pixels identifier (length buffer) place e).0 fit

pub pixel_line_reads_back : PixelLineReadsBack
pixel_line_reads_back format pixels identifier place buffer bytes hi e =
    long_packet_reads_back format pixels identifier place buffer bytes hi (pixel_line_given format pixels identifier (length buffer) place e).1

pub pixel_line_unpacks : PixelLineUnpacks
pixel_line_unpacks bits format pixels identifier place size buffer bytes known hi e =
    let by = pixel_line_given format pixels identifier (length buffer) place e in
    long_packet_unpacks bits format pixels identifier place size buffer bytes known hi by.0 by.1

-- the identifier of a frame start or end is a byte with a short type
sync_short : (identifier : ℕ) (sync : FrameSync) → identifier < 256
    → (sync_identifier identifier sync < 256) × (is_short (sync_identifier identifier sync) ≡ true)
sync_short identifier FrameStart h = (omega arith, le-leb ((identifier / 64 * 64 + 0) % 64) 15 (omega arith))
sync_short identifier FrameEnd h = (omega arith, le-leb ((identifier / 64 * 64 + 1) % 64) 15 (omega arith))

-- every frame start and end that is written is read back from its place
pub short_reads_back : ShortReadsBack
short_reads_back identifier sync number place buffer bytes hi hn e =
    let own = sync_identifier identifier sync in
    let by = short_given identifier sync number (length buffer) place e in
    let kind = sync_short identifier sync hi in
    let header = header_bytes own number in
    from_place header bytes buffer [] place own number by.1 (leb-true (place + length header) (length buffer) by.0)
    (short_reads own number (drop (place + length header) buffer) kind.0 hn kind.1)
