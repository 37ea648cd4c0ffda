-- Laws of a header as one number: what flipping a bit of its bytes does to the number, and what a header that was written is read as.
-- Assumes nothing.
use mathlib.Core.Path.{◌≡◌, refl, sym, ap, ap₂, ◌∙◌}
use mathlib.Core.Bool.{true}
use mathlib.Core.List.{List, [], ◌∷◌}
use Prim.Native.Nat.{ℕ, zero, suc, ◌+◌, ◌*◌, ◌/◌, ◌%◌, ◌^◌, ◌≤◌, ◌<◌, suc-le-suc}
use native.Mathlib.Omega.{arith}
use lib.Bits.{bit_xor, xor_lt}
use lib.ListN.{length, get_or, set, drop, length-set}
use lib.Pow.{pow-add, pow-lt}
use lib.Seq.{get_or-drop, drop-set-lt}
use Rattle.laws.specs.Reply.{refused, given}
use Rattle.laws.proofs.Bitwise.{xor_low, xor_high}
use Rattle.std.specs.Prelude.{Option, None, Some}
use Rattle.ecc.specs.CheckBytes.{check_byte}
use Rattle.ecc.specs.HeaderCorrection.{is_right, flipped, correction_of}
use Rattle.ecc.proofs.Linear.{check_small}
use Rattle.ecc.proofs.Near.{right_by, correct_right, flipped_is_named, two_flipped_refused}
use Rattle.reader.specs.declared.Packet.{Packet}
use Rattle.reader.specs.Reader.{header_number, header_packet, read_body, read_packet}
use Rattle.reader.specs.RoundTrip.{flipped_in}
use Rattle.reader.proofs.ReaderLaws.{header_read}

-- the first n bytes as one number, the first lowest
abbrev first_bytes : ℕ → List ℕ → ℕ
first_bytes zero bytes = 0
first_bytes (suc n) bytes = get_or bytes 0 0 + 2 ^ 8 * first_bytes n (drop 1 bytes)

-- a header's number is that of the first four bytes
number_first : (bytes : List ℕ) → header_number bytes ≡ first_bytes 4 bytes
number_first bytes = simp get_or-drop (omega arith)

-- to flip bit r of byte q is to flip bit 8 * q + r of the number
flipped_first : (n : ℕ) (bytes : List ℕ) (q r : ℕ) → q < n → n ≤ length bytes → r < 8 → ((k : ℕ) → k < n → get_or bytes k 0 < 2 ^ 8)
    → first_bytes n (set bytes q (bit_xor (get_or bytes q 0) (2 ^ r))) ≡ bit_xor (first_bytes n bytes) (2 ^ (8 * q + r))
flipped_first zero bytes q r hq hn hr small = absurd (omega arith)
flipped_first (suc n) [] q r hq hn hr small = absurd (omega arith)
flipped_first (suc n) (byte ∷ bytes) zero r hq hn hr small =
    let p : r ≡ 8 * 0 + r = omega arith in
    sym (xor_low 8 byte (first_bytes n bytes) (2 ^ r) (small 0 hq) (pow-lt hr)) ∙ ap (λ (k : ℕ). bit_xor (byte + 2 ^ 8 * first_bytes n bytes) (2 ^ k)) p
flipped_first (suc n) (byte ∷ bytes) (suc q) r hq hn hr small =
    let p : 2 ^ (8 * suc q + r) ≡ 2 ^ 8 * 2 ^ (8 * q + r) = ap (λ (k : ℕ). 2 ^ k) (omega arith) ∙ pow-add 2 8 (8 * q + r) in
    ap (λ (m : ℕ). byte + 2 ^ 8 * m) (flipped_first n bytes q r (omega arith) (omega arith) hr (λ k h. small (suc k) (suc-le-suc h)))
    ∙ sym (ap (bit_xor (byte + 2 ^ 8 * first_bytes n bytes)) p ∙ xor_high 8 byte (first_bytes n bytes) (2 ^ (8 * q + r)) (small 0 (omega arith)))

-- any four bytes, with anything after them
module _ (bytes : List ℕ) (whole : 4 ≤ length bytes) (small : (k : ℕ) → k < 4 → get_or bytes k 0 < 2 ^ 8) where
  -- their number has 32 bits
  number_small : header_number bytes < 2 ^ 32
  number_small = omega (arith, small 0 (omega arith), small 1 (omega arith), small 2 (omega arith), small 3 (omega arith))

  -- to flip a bit of the bytes is to flip that bit of the number
  number_flipped : (i : ℕ) → i < 32 → header_number (flipped_in bytes i) ≡ flipped (header_number bytes) i
  number_flipped i h =
      let p : 8 * (i / 8) + i % 8 ≡ i = omega arith in
      number_first (flipped_in bytes i)
      ∙ flipped_first 4 bytes (i / 8) (i % 8) (omega arith) whole (omega arith) small
      ∙ ap₂ (λ (m k : ℕ). bit_xor m (2 ^ k)) (sym (number_first bytes)) p

-- a store of a byte leaves bytes
set-small : (bytes : List ℕ) (q x k : ℕ) → x < 2 ^ 8 → get_or bytes k 0 < 2 ^ 8 → get_or (set bytes q x) k 0 < 2 ^ 8
set-small [] q x k hx h = h
set-small (byte ∷ bytes) zero x zero hx h = hx
set-small (byte ∷ bytes) zero x (suc k) hx h = h
set-small (byte ∷ bytes) (suc q) x zero hx h = h
set-small (byte ∷ bytes) (suc q) x (suc k) hx h = set-small bytes q x k hx h

-- so two bits of the bytes are flipped in the number too
number_two : (bytes : List ℕ) → 4 ≤ length bytes → ((k : ℕ) → k < 4 → get_or bytes k 0 < 2 ^ 8) → (i j : ℕ) → i < 32 → j < 32
    → header_number (flipped_in (flipped_in bytes i) j) ≡ flipped (flipped (header_number bytes) i) j
number_two bytes whole small i j hi hj =
    let byte = bit_xor (get_or bytes (i / 8) 0) (2 ^ (i % 8)) in
    let l = length-set bytes (i / 8) byte in
    let x = xor_lt 8 (get_or bytes (i / 8) 0) (2 ^ (i % 8)) (small (i / 8) (omega arith)) (pow-lt {j = 8} (omega arith)) in
    number_flipped (flipped_in bytes i) (omega arith) (λ k h. set-small bytes (i / 8) byte k x (small k h)) j hj
    ∙ ap (λ (m : ℕ). flipped m j) (number_flipped bytes whole small i hi)

-- the packet that a header tells
abbrev pub packet_of : ℕ → ℕ → Option ℕ → Packet
packet_of identifier n corrected = record { data_identifier = identifier; word_count = n; corrected = corrected }

-- a header that was written, with anything after it
module _ (identifier n : ℕ) (rest : List ℕ) (hi : identifier < 256) (hn : n < 65536) where
  abbrev bytes : List ℕ
  bytes = identifier ∷ n % 256 ∷ n / 256 ∷ check_byte (identifier + 256 * n) ∷ rest

  -- its four numbers are bytes
  header_small : (k : ℕ) → k < 4 → get_or bytes k 0 < 2 ^ 8
  header_small zero h = hi
  header_small (suc zero) h = omega arith
  header_small (suc (suc zero)) h = omega arith
  header_small (suc (suc (suc zero))) h = omega (arith, check_small (identifier + 256 * n))
  header_small (suc (suc (suc (suc k)))) h = absurd (omega arith)

  -- it is right
  header_right : is_right (header_number bytes) ≡ true
  header_right =
      let word = identifier + 256 * n in
      let s = check_small word in
      let low : header_number bytes % 2 ^ 24 ≡ word = omega arith in
      let high : header_number bytes / 2 ^ 24 ≡ check_byte word = omega arith in
      right_by (header_number bytes) (high ∙ ap check_byte (sym low))

  -- its number tells the identifier and the count
  header_packet_lem : (corrected : Option ℕ) → header_packet (record { header = header_number bytes; corrected = corrected }) ≡ packet_of identifier n corrected
  header_packet_lem corrected =
      let i : header_number bytes % 2 ^ 8 ≡ identifier = omega arith in
      let above : header_number bytes / 2 ^ 8 ≡ n + 2 ^ 16 * check_byte (identifier + 256 * n) = omega arith in
      let c : header_number bytes / 2 ^ 8 % 2 ^ 16 ≡ n = omega arith in
      cc

  -- bytes whose header is read as this one are answered as its packet
  read_so : (read : List ℕ) (corrected : Option ℕ) → 4 ≤ length read → drop 4 read ≡ rest
      → correction_of (header_number read) ≡ given (record { header = header_number bytes; corrected = corrected })
      → read_packet read ≡ read_body rest (packet_of identifier n corrected)
  read_so read corrected whole body corrected-as =
      header_read read whole corrected-as ∙ ap₂ read_body body (header_packet_lem corrected)

  -- as it was written it is read with nothing corrected
  pub written_read : read_packet bytes ≡ read_body rest (packet_of identifier n None)
  written_read = read_so bytes None (omega arith) refl (correct_right (header_number bytes) header_right)

  -- what stands after it stays when a bit of it is flipped
  pub drop-flipped : (i : ℕ) → i < 32 → drop 4 (flipped_in bytes i) ≡ rest
  drop-flipped i h = drop-set-lt 4 bytes (i / 8) (bit_xor (get_or bytes (i / 8) 0) (2 ^ (i % 8))) (omega arith)

  -- with bit i flipped it is read all the same, and bit i is named
  pub flipped_read : (i : ℕ) → i < 32 → read_packet (flipped_in bytes i) ≡ read_body rest (packet_of identifier n (Some i))
  flipped_read i h =
      let whole : 4 ≤ length bytes = omega arith in
      let l = length-set bytes (i / 8) (bit_xor (get_or bytes (i / 8) 0) (2 ^ (i % 8))) in
      read_so (flipped_in bytes i) (Some i) (omega arith) (drop-flipped i h)
      (ap correction_of (number_flipped bytes whole header_small i h)
      ∙ flipped_is_named (header_number bytes) i (number_small bytes whole header_small) h header_right)

  -- with two different bits flipped it is refused
  pub two_flipped_read : (i j : ℕ) → i < 32 → j < 32 → (i ≡ j → ⊥) → read_packet (flipped_in (flipped_in bytes i) j) ≡ refused 10
  two_flipped_read i j h k apart =
      let one = flipped_in bytes i in
      let whole : 4 ≤ length bytes = omega arith in
      let l = length-set bytes (i / 8) (bit_xor (get_or bytes (i / 8) 0) (2 ^ (i % 8))) in
      let m = length-set one (j / 8) (bit_xor (get_or one (j / 8) 0) (2 ^ (j % 8))) in
      header_read (flipped_in one j) (omega arith)
      (ap correction_of (number_two bytes whole header_small i j h k) ∙ two_flipped_refused (header_number bytes) i j h k apart header_right)
