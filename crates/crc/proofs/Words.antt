-- Words of 64 bits that hold bytes: how they are made, and what feeding them does.
-- Assumes nothing.
use mathlib.Core.Path.{◌≡◌, refl, sym, ap, ap₂, ◌∙◌}
use mathlib.Core.List.{List}
use Prim.Native.Nat.{ℕ, suc, ◌+◌, ◌*◌, ◌/◌, ◌%◌, ◌^◌, ◌<◌}
use native.Mathlib.Nat.{lt_of_lt_of_le, div-eq_of_lt, add_assoc, add_comm}
use native.Mathlib.Numerals.{add-one}
use native.Mathlib.Omega.{arith}
use lib.Bits.{bit_xor, xor_comm, xor_zero_r, xor_lt, xor_shr}
use lib.ListN.{length, take, drop, get_or}
use lib.Seq.{drop-cons, drop-drop, take_all}
use lib.Pow.{pow_mono, shl_exact, shl_lt}
use Rattle.laws.proofs.Bitwise.{xor_assoc}
use Rattle.crc.specs.Checksum.{crc_bits, crc_from}
use Rattle.crc.specs.WideRegister.{shifts, Holds, after_word}
use Rattle.crc.proofs.Shifts.{all_fed, shifts_linear, taken_down, shifts_add, from_top, crc_more}

-- a word of no bytes
pub holds_none : (s : List ℕ) (p : ℕ) → Holds s p 0 0
unfolding crc_from shifts
holds_none s p = record { small = omega arith; feeds = λ c. sym (xor_zero_r c) }

-- a byte before the n that a word holds
pub holds_more : (s : List ℕ) (p n x : ℕ) → p < length s → n < 8 → get_or s p 0 < 256 → Holds s (suc p) n x
    → Holds s p (suc n) (bit_xor (x * 2 ^ 8 % 2 ^ 64) (get_or s p 0))
unfolding crc_from
holds_more s p n x hp hn hb h =
    rw (shl_exact (8 * n) 8 64 h.small (omega arith))
    (record {
      small = rw longer (xor_lt (8 * n + 8) _ _ (shl_lt (8 * n) 8 h.small) (lt_of_lt_of_le hb (pow_mono {i = 8} (omega arith))));
      feeds = λ c. ap (λ (l : List ℕ). crc_from c (take (suc n) l)) (drop-cons s p 0 hp) ∙ fed c (get_or s p 0) hb;
    })
  where
    longer : 8 * suc n ≡ 8 * n + 8
    longer = omega arith

    fed : (c b : ℕ) → b < 256 → crc_from (crc_bits 8 c b) (take n (drop (suc p) s)) ≡ shifts (8 * suc n) (bit_xor c (bit_xor (x * 2 ^ 8) b))
    fed c b hb =
        h.feeds (crc_bits 8 c b)
        ∙ ap (shifts (8 * n)) (ap₂ bit_xor (all_fed 8 c b hb) (sym (taken_down 8 x)) ∙ sym (shifts_linear 8 (bit_xor c b) (x * 2 ^ 8)))
        ∙ sym (shifts_add 8 (8 * n) (bit_xor (bit_xor c b) (x * 2 ^ 8)))
        ∙ ap₂ shifts (sym (longer ∙ add_comm (8 * n) 8)) (xor_assoc c b (x * 2 ^ 8) ∙ ap (bit_xor c) (xor_comm b (x * 2 ^ 8)))

-- a byte after the n that a word holds
pub holds_last : (s : List ℕ) (p n x : ℕ) → p + n < length s → n < 8 → get_or s (p + n) 0 < 256 → Holds s p n x
    → Holds s p (suc n) (bit_xor x (get_or s (p + n) 0 * 2 ^ (8 * n) % 2 ^ 64))
unfolding crc_from
holds_last s p n x hp hn hb h =
    rw (shl_exact 8 (8 * n) 64 hb (omega arith))
    (record {
      small = rw longer (xor_lt (8 + 8 * n) _ _ (lt_of_lt_of_le h.small (pow_mono (omega arith))) (shl_lt 8 (8 * n) hb));
      feeds = λ c.
          ap (λ (k : ℕ). crc_from c (take k (drop p s))) (sym (add-one n)) ∙ sym (crc_more c (drop p s) n 1 refl)
          ∙ ap (λ (l : List ℕ). crc_from (crc_from c (take n (drop p s))) (take 1 l)) (drop-drop n p s ∙ drop-cons s (p + n) 0 hp)
          ∙ fed c (get_or s (p + n) 0) hb;
    })
  where
    longer : 8 * suc n ≡ 8 + 8 * n
    longer = omega arith

    fed : (c b : ℕ) → b < 256 → crc_bits 8 (crc_from c (take n (drop p s))) b ≡ shifts (8 * suc n) (bit_xor c (bit_xor x (b * 2 ^ (8 * n))))
    fed c b hb =
        all_fed 8 _ b hb
        ∙ ap (shifts 8) (ap₂ bit_xor (h.feeds c) (sym (taken_down (8 * n) b)) ∙ sym (shifts_linear (8 * n) (bit_xor c x) (b * 2 ^ (8 * n))))
        ∙ sym (shifts_add (8 * n) 8 (bit_xor (bit_xor c x) (b * 2 ^ (8 * n))))
        ∙ ap₂ shifts (add_comm (8 * n) 8 ∙ sym longer) (xor_assoc c x (b * 2 ^ (8 * n)))

-- a word more of a list, and two
pub word_next : (c : ℕ) (s : List ℕ) (i : ℕ) {sum x : ℕ} → Holds s i 8 x → sum ≡ crc_from c (take i s)
    → after_word sum x ≡ crc_from c (take (i + 8) s)
word_next c s i {sum} h e = sym (h.feeds sum) ∙ crc_more c s i 8 e

pub two_words_next : (c : ℕ) (s : List ℕ) (i : ℕ) {sum x y : ℕ} → Holds s i 8 x → Holds s (i + 8) 8 y → sum ≡ crc_from c (take i s)
    → after_word (after_word sum x) y ≡ crc_from c (take (i + 16) s)
two_words_next c s i h k e = word_next c s (i + 8) k (word_next c s i h e) ∙ ap (λ (n : ℕ). crc_from c (take n s)) (add_assoc i 8 8)

-- the n bytes of a word that is not full, by the top of a word: j + 8 * n is 64
pub part_fed : (s : List ℕ) (j n c x : ℕ) → j + 8 * n ≡ 64 → n ≡ length s → Holds s 0 n x
    → bit_xor (shifts 64 (bit_xor c x * 2 ^ j % 2 ^ 64)) (c / 2 ^ (8 * n)) ≡ crc_from c s
part_fed s j n c x e k h =
    sym (ap (crc_from c) (sym (take_all n s (omega arith))) ∙ h.feeds c ∙ from_top j (8 * n) (bit_xor c x)
    ∙ ap₂ bit_xor (ap (λ (t : ℕ). shifts t (bit_xor c x * 2 ^ j % 2 ^ t)) e)
    (xor_shr c x (8 * n) ∙ ap (bit_xor (c / 2 ^ (8 * n))) (div-eq_of_lt h.small) ∙ xor_zero_r (c / 2 ^ (8 * n))))
