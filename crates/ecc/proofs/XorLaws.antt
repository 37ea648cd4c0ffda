-- The exclusive-or of the columns of the data bits that are 1 is the check byte by counts of ones: bit by bit, because that is linear.
-- Assumes nothing.
use mathlib.Core.Path.{◌≡◌, refl, sym, ap, ap₂, ◌∙◌}
use mathlib.Core.Bool.{Bool, true, ◌&&◌, cond}
use mathlib.Core.List.{List, [], ◌∷◌}
use Prim.Native.Nat.{ℕ, zero, suc, ◌+◌, ◌-◌, ◌*◌, ◌/◌, ◌%◌, ◌^◌, ◌<◌}
use native.Mathlib.Nat.{mod-lt, mod-one, mod-eq_of_lt, zero-mul, zero-add, one-mul}
use native.Mathlib.Numerals.{one-add, add-one}
use native.Mathlib.Omega.{arith}
use lib.Bits.{bit_and, bit_xor, and_mask, and_zero_r, xor_comm, xor_zero_r, xor_shifted}
use borrow.Author.Tests.{ltb-true}
use lib.Dec.{eqb, ltb}
use lib.Pow.{pow_pos, mod-pow-add, mod-mod-pow, field}
use Rattle.laws.specs.Bits.{digit, bit}
use Rattle.laws.proofs.Bits.{digit_case}
use Rattle.laws.proofs.Bools.{both}
use Rattle.ecc.specs.CheckBytes.{ones_among, P0, P1, P2, P3, P4, P5, check_byte}
use Rattle.ecc.specs.Columns.{data_column, xor_of_columns, XorIsCounts}
use Rattle.ecc.proofs.Linear.{check_small, check_linear}

pub xor_none : (word : ℕ) → xor_of_columns 0 word ≡ 0
unfolding xor_of_columns
xor_none word = refl

-- one data bit more: its column under a mask that is all ones where the bit is 1
pub xor_more : (n word : ℕ) → xor_of_columns (n + 1) word ≡ bit_xor (xor_of_columns n word) (bit_and (data_column n) (255 * digit n word))
unfolding xor_of_columns data_column bit
xor_more n word =
    let x = xor_of_columns n word in
    let column = check_byte (2 ^ n) in
    let whole : column ≡ bit_and column (2 ^ 8 - 1) = sym (and_mask column 8 ∙ mod-eq_of_lt (let s = check_small (2 ^ n) in omega arith)) in
    ap (λ (t : ℕ). xor_of_columns t word) (add-one n)
    ∙ digit_case (λ d. cond (eqb d 1) (bit_xor x column) x ≡ bit_xor x (bit_and column (255 * d)))
    (sym (ap (bit_xor x) (and_zero_r column) ∙ xor_zero_r x)) (ap (bit_xor x) whole) (word / 2 ^ n)

-- the first n + 1 bits of a word are the first n and one digit more
one_more : (n word : ℕ) → word % 2 ^ suc n ≡ digit n word * 2 ^ n + word % 2 ^ n
one_more n word = ap (λ (t : ℕ). word % 2 ^ t) (sym (one-add n)) ∙ mod-pow-add word 1 n

check_zero : check_byte 0 ≡ 0
unfolding check_byte ones_among
check_zero = refl

module _ (word : ℕ) where
  -- the exclusive-or of the first n columns is the check byte of the first n bits
  of_first : (n : ℕ) → xor_of_columns n word ≡ check_byte (word % 2 ^ n)
  unfolding xor_of_columns data_column bit
  of_first zero = sym (ap check_byte (mod-one word) ∙ check_zero)
  of_first (suc n) =
      let first = word % 2 ^ n in
      let x = xor_of_columns n word in
      let other : 0 * 2 ^ n + first ≡ first = ap (λ (t : ℕ). t + first) (zero-mul (2 ^ n)) ∙ zero-add first in
      let with_bit : bit_xor first (2 ^ n) ≡ 1 * 2 ^ n + first =
      xor_comm first (2 ^ n) ∙ ap (λ (t : ℕ). bit_xor t first) (sym (one-mul (2 ^ n))) ∙ xor_shifted 1 n first (mod-lt word (pow_pos n)) in
      digit_case (λ d. cond (eqb d 1) (bit_xor x (check_byte (2 ^ n))) x ≡ check_byte (d * 2 ^ n + first))
      (of_first n ∙ ap check_byte (sym other))
      (ap (λ (t : ℕ). bit_xor t (check_byte (2 ^ n))) (of_first n) ∙ sym (check_linear first (2 ^ n)) ∙ ap check_byte with_bit) (word / 2 ^ n)
      ∙ ap check_byte (sym (one_more n word))

-- a word's digit i, taken of its first n bits
low_digit : (n i word : ℕ) → i < n → digit i (word % 2 ^ n) ≡ digit i word
low_digit n i word h =
    let all : n ≡ (n - i) + i = omega arith in
    let rest : n - i ≡ (n - i - 1) + 1 = omega arith in
    ap (λ (t : ℕ). t % 2) (ap (λ (t : ℕ). word % 2 ^ t / 2 ^ i) all ∙ field word (n - i) i ∙ ap (λ (t : ℕ). word / 2 ^ i % 2 ^ t) rest)
    ∙ mod-mod-pow (word / 2 ^ i) (n - i - 1) 1

-- every check bit counts data bits alone
are_data_bits : List ℕ → Bool
are_data_bits [] = true
are_data_bits (i ∷ places) = ltb i 24 && are_data_bits places

ones_low : (places : List ℕ) (word : ℕ) → are_data_bits places ≡ true → ones_among places (word % 2 ^ 24) ≡ ones_among places word
unfolding are_data_bits ones_among
ones_low [] word e = refl
ones_low (i ∷ places) word e =
    let b = both (ltb i 24) (are_data_bits places) e in
    ap₂ ◌+◌ (low_digit 24 i word (ltb-true i 24 b.0)) (ones_low places word b.1)

check_low : (word : ℕ) → check_byte (word % 2 ^ 24) ≡ check_byte word
unfolding check_byte are_data_bits
check_low word =
    rw (
      ones_low P0 word refl,
      ones_low P1 word refl,
      ones_low P2 word refl,
      ones_low P3 word refl,
      ones_low P4 word refl,
      ones_low P5 word refl,
    )

pub xor_is_counts : XorIsCounts
xor_is_counts word = of_first word 24 ∙ check_low word
