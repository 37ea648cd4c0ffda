-- What the writers answer, by the tests that the source makes, and what an answer that is no refusal tells; a packet from its parts.
-- Assumes nothing.
use mathlib.Core.Path.{◌≡◌, refl, sym, ap, ap₂, ◌∙◌}
use mathlib.Core.Bool.{Bool, true, false, cond}
use mathlib.Core.List.{List, ◌∷◌, ◌++◌, append_assoc}
use Prim.Native.Nat.{ℕ, ◌+◌, ◌*◌, ◌/◌, ◌%◌, ◌≤◌}
use lib.ListN.{length, take, drop, length-append}
use native.Mathlib.Omega.{arith}
use Rattle.laws.specs.Reply.{refused, given}
use Rattle.laws.specs.Buffers.{written, has_room}
use Rattle.laws.proofs.Buffers.{length-written, written_more, read_written}
use Rattle.formats.specs.declared.Format.{Format}
use Rattle.ecc.specs.CheckBytes.{check_byte}
use Rattle.crc.specs.Checksum.{crc_of}
use Rattle.packing.specs.Raw.{payload_of, width_allowed, all_fit}
use Rattle.packing.specs.Lengths.{payload_length}
use Rattle.packing.proofs.RawLaws.{length_payload}
use Rattle.packing.proofs.CheckLaws.{passed}
use Rattle.laws.proofs.Replies.{was_true, was_false, room_by, had_room}
use Rattle.csi2.specs.declared.short.FrameSync.{FrameSync}
use Rattle.csi2.specs.Packets.{little_endian, is_short, header_bytes, sync_identifier, long_packet}
use Rattle.csi2.specs.Writers.{short_reply, packet_reply, long_packet_reply, pixel_line_reply}

-- a header and a long packet, with anything after them
pub header_then : (identifier n : ℕ) (rest : List ℕ)
    → header_bytes identifier n ++ rest ≡ identifier ∷ n % 256 ∷ n / 256 ∷ check_byte (identifier + 256 * n) ∷ rest
unfolding header_bytes
header_then identifier n rest = refl

pub packet_then : (identifier : ℕ) (payload rest : List ℕ)
    → long_packet identifier payload ++ rest ≡ header_bytes identifier (length payload) ++ (payload ++ (little_endian (crc_of payload) ++ rest))
unfolding long_packet
packet_then identifier payload rest = simp append_assoc

-- a frame start or end
module _ (identifier : ℕ) (sync : FrameSync) (number size place : ℕ) where
  abbrev header : List ℕ
  header = header_bytes (sync_identifier identifier sync) number

  pub short_by : {room : Bool} → has_room size place 4 ≡ room → short_reply identifier sync number size place ≡ cond room (given header) (refused 8)
  unfolding short_reply header_bytes
  short_by e = room_by size place header 4 refl e

  pub short_given : {bytes : List ℕ} → short_reply identifier sync number size place ≡ given bytes
      → (has_room size place (length header) ≡ true) × (header ≡ bytes)
  unfolding short_reply
  short_given e = had_room size place header e

pub length-packet : (identifier : ℕ) (payload : List ℕ) → length (long_packet identifier payload) ≡ 6 + length payload
unfolding long_packet header_bytes
length-packet identifier payload =
    length-append (header_bytes identifier (length payload) ++ payload) (little_endian (crc_of payload)) ∙ omega arith

pub packet_count : (format : Format) (pixels : List ℕ) (identifier n : ℕ) → n ≡ payload_length format (length pixels)
    → length (long_packet identifier (payload_of format pixels)) ≡ 6 + n
packet_count format pixels identifier n count =
    length-packet identifier (payload_of format pixels) ∙ ap (λ (k : ℕ). 6 + k) (length_payload format pixels ∙ sym count)

-- a payload in a long packet
pub packet_by : (identifier : ℕ) (payload : List ℕ) (size place n : ℕ) → length payload ≡ n → {short room : Bool}
    → is_short identifier ≡ short → has_room size place (6 + n) ≡ room
    → packet_reply identifier payload size place ≡ cond short (refused 7) (cond room (given (long_packet identifier payload)) (refused 8))
unfolding packet_reply
packet_by identifier payload size place n count s r =
    let packet = long_packet identifier payload in
    rw (s, room_by size place packet (6 + n) (rw count at (length-packet identifier payload)) r)

-- a long packet
module _ (format : Format) (pixels : List ℕ) (identifier size place : ℕ) where
  abbrev packet : List ℕ
  packet = long_packet identifier (payload_of format pixels)

  pub long_by : (n : ℕ) → n ≡ payload_length format (length pixels) → {width short room : Bool} → width_allowed format (length pixels) ≡ width
      → is_short identifier ≡ short → has_room size place (6 + n) ≡ room
      → long_packet_reply format pixels identifier size place ≡ cond width (cond short (refused 7) (cond room (given packet) (refused 8))) (refused 5)
  unfolding long_packet_reply
  long_by n count w s r = rw (w, packet_by identifier (payload_of format pixels) size place n (length_payload format pixels ∙ sym count) s r)

  -- where the width is allowed, a long packet is its payload's
  pub long_good : width_allowed format (length pixels) ≡ true
      → long_packet_reply format pixels identifier size place ≡ packet_reply identifier (payload_of format pixels) size place
  unfolding long_packet_reply
  long_good width = rw width

  pub long_given : {bytes : List ℕ} → long_packet_reply format pixels identifier size place ≡ given bytes
      → (width_allowed format (length pixels) ≡ true) × (is_short identifier ≡ false) × (has_room size place (length packet) ≡ true) × (packet ≡ bytes)
  unfolding packet_reply long_packet_reply
  long_given e =
      let width = was_true 5 (width_allowed format (length pixels)) e in
      let long = was_false 7 (is_short identifier) width.1 in
      let room = had_room size place packet long.1 in
      (width.0, long.0, room.0, room.1)

  -- a pixel line that is written is a long packet whose pixels fit
  pub pixel_line_given : {bytes : List ℕ} → pixel_line_reply format pixels identifier size place ≡ given bytes
      → (all_fit format pixels ≡ true) × (long_packet_reply format pixels identifier size place ≡ given bytes)
  unfolding pixel_line_reply
  pixel_line_given e = let by = passed format pixels _ e in (by.1, long_good by.0 ∙ by.2)

-- a packet from its parts: the header, the payload and the checksum, written one after the other
pub packet_parts : (d₀ d₁ d₂ d₃ payload : List ℕ) (identifier n : ℕ) → length payload ≡ n → 6 + n ≤ length d₀
    → d₁ ≡ written d₀ 0 (header_bytes identifier n) → d₂ ≡ written d₁ 4 payload
    → d₃ ≡ written d₂ (4 + n) (little_endian (crc_of (take n (drop 4 d₂)))) → d₃ ≡ written d₀ 0 (long_packet identifier payload)
unfolding header_bytes long_packet
packet_parts d₀ d₁ d₂ d₃ payload identifier n ln room e₁ e₂ e₃ =
    let head = header_bytes identifier n in
    let l₁ : length d₁ ≡ length d₀ = ap length e₁ ∙ length-written d₀ 0 head (omega arith) in
    let lh : length (head ++ payload) ≡ 4 + n = length-append head payload ∙ ap (λ (k : ℕ). 4 + k) ln in
    let both : d₂ ≡ written d₀ 0 (head ++ payload) =
    e₂ ∙ ap (λ (d : List ℕ). written d 4 payload) e₁ ∙ written_more d₀ 0 head (omega arith) payload (omega arith) in
    let back : take n (drop 4 d₂) ≡ payload =
    ap₂ (λ (k : ℕ) (d : List ℕ). take k (drop 4 d)) (sym ln) e₂ ∙ read_written d₁ 4 payload (omega arith) in
    let place : 4 + n ≡ 0 + length (head ++ payload) = omega arith in
    let sum = crc_of (take n (drop 4 d₂)) in
    e₃ ∙ ap₂ (λ (d : List ℕ) (k : ℕ). written d k (little_endian sum)) both place
    ∙ written_more d₀ 0 (head ++ payload) (omega arith) (little_endian sum) (omega arith)
    ∙ ap₂ (λ (k m : ℕ). written d₀ 0 (header_bytes identifier k ++ payload ++ little_endian m)) (sym ln) (ap crc_of back)
