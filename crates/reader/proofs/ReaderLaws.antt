-- What the reader answers, by the tests that the source makes, and where a payload stands.
-- Assumes nothing.
use mathlib.Core.Path.{◌≡◌, refl}
use mathlib.Core.Bool.{Bool, true, false, cond}
use mathlib.Core.List.{List}
use Prim.Native.Nat.{ℕ, ◌+◌, ◌-◌, ◌≤◌, ◌<◌}
use native.Mathlib.Omega.{arith}
use borrow.Author.Tests.{lt-ltb, le-ltb, ltb-false}
use lib.Dec.{ltb}
use lib.ListN.{length, drop, length-drop}
use Rattle.laws.specs.Reply.{Reply, refused, refused_with, given, and_then}
use Rattle.ecc.specs.declared.ReadHeader.{ReadHeader}
use Rattle.ecc.specs.HeaderCorrection.{correction_of}
use Rattle.csi2.specs.Packets.{is_short}
use Rattle.reader.specs.declared.Packet.{Packet}
use Rattle.reader.specs.Reader.{header_number, header_packet, checksum_matches, read_body, read_packet, payload_count}

module _ (body : List ℕ) (packet : Packet) where
  pub short_accepted : is_short packet.data_identifier ≡ true → read_body body packet ≡ given packet
  unfolding read_body
  short_accepted e = rw e

  module _ (long : is_short packet.data_identifier ≡ false) where
    pub body_cut : length body < packet.word_count + 2 → read_body body packet ≡ refused 12
    unfolding read_body
    body_cut h = rw (long, lt-ltb (length body) (packet.word_count + 2) h)

    pub body_whole : packet.word_count + 2 ≤ length body → {right : Bool} → checksum_matches body packet.word_count ≡ right
        → read_body body packet ≡ cond right (given packet) (refused 11)
    unfolding read_body
    body_whole h e = rw (long, le-ltb (length body) (packet.word_count + 2) h, e)

  -- the payload that a body is answered with stands in it
  payload_in_body : payload_count (read_body body packet) ≤ length body
  unfolding read_body
  payload_in_body =
      go (is_short packet.data_identifier) refl (ltb (length body) (packet.word_count + 2)) refl (checksum_matches body packet.word_count)
    where
      go : (short : Bool) → is_short packet.data_identifier ≡ short → (cut : Bool) → ltb (length body) (packet.word_count + 2) ≡ cut → (right : Bool)
          → payload_count (cond short (given packet) (cond cut (refused 12) (cond right (given packet) (refused 11)))) ≤ length body
      go true s cut c right = rw s (omega arith)
      go false s true c right = omega arith
      go false s false c true = let h = ltb-false (length body) (packet.word_count + 2) c in rw s (omega arith)
      go false s false c false = omega arith

module _ (bytes : List ℕ) where
  pub bytes_cut : length bytes < 4 → read_packet bytes ≡ refused 12
  unfolding read_packet
  bytes_cut h = rw (lt-ltb (length bytes) 4 h)

  pub header_read : 4 ≤ length bytes → {reply : Reply ReadHeader} → correction_of (header_number bytes) ≡ reply
      → read_packet bytes ≡ and_then reply (λ read. read_body (drop 4 bytes) (header_packet read))
  unfolding read_packet
  header_read h e = rw (le-ltb (length bytes) 4 h, e)

  -- a payload stands in the bytes after the header
  pub payload_inside : payload_count (read_packet bytes) ≤ length bytes - 4
  unfolding read_packet
  payload_inside = go (ltb (length bytes) 4) (correction_of (header_number bytes))
    where
      go : (cut : Bool) (reply : Reply ReadHeader)
          → payload_count (cond cut (refused 12) (and_then reply (λ read. read_body (drop 4 bytes) (header_packet read)))) ≤ length bytes - 4
      go true reply = omega arith
      go false (refused_with number detail) = omega arith
      go false (given read) = omega (arith, payload_in_body (drop 4 bytes) (header_packet read), length-drop 4 bytes)
