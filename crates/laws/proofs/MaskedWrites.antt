-- Laws of a write under a mask, over any mask of eight bits.
-- Assumes nothing.
use mathlib.Core.Path.{◌≡◌, refl, sym, ap, ap₂, ◌∙◌}
use mathlib.Core.Bool.{Bool, true, false, cond}
use Prim.Native.Nat.{ℕ, ◌-◌, ◌/◌, ◌%◌, ◌^◌, ◌<◌}
use native.Mathlib.Omega.{arith}
use lib.Bits.{bit_and, bit_or, and_le_r, or_lt}
use lib.Dec.{eqb}
use Rattle.laws.specs.Bits.{digit, bit}
use Rattle.laws.specs.MaskedWrites.{masked}
use Rattle.laws.proofs.Bits.{digit_case, same_digits, digit_and, digit_or, digit_not}

module _ (mask : ℕ) (small : mask < 256) where
  -- the result is a byte
  pub masked_byte : (old value : ℕ) → masked mask old value < 256
  unfolding masked
  masked_byte old value =
      or_lt 8 (bit_and value mask) (bit_and old (255 - mask))
      (omega (arith, and_le_r value mask)) (omega (arith, and_le_r old (255 - mask)))

  -- each digit is the value's where the mask has a one, and the old one elsewhere
  pub masked_digit : (k old value : ℕ) → k < 8 → digit k (masked mask old value) ≡ cond (bit k mask) (digit k value) (digit k old)
  unfolding masked bit
  masked_digit k old value h =
      digit_or k (bit_and value mask) (bit_and old (255 - mask))
      ∙ ap₂ bit_or (digit_and k value mask) (digit_and k old (255 - mask) ∙ ap (bit_and (digit k old)) (digit_not 8 k mask small h))
      ∙ chosen (value / 2 ^ k) (old / 2 ^ k) (mask / 2 ^ k)
    where
      chosen : (v o m : ℕ) → bit_or (bit_and (v % 2) (m % 2)) (bit_and (o % 2) (1 - m % 2)) ≡ cond (eqb (m % 2) 1) (v % 2) (o % 2)
      chosen v o m =
          digit_case (λ z. bit_or (bit_and (v % 2) z) (bit_and (o % 2) (1 - z)) ≡ cond (eqb z 1) (v % 2) (o % 2))
          (digit_case (λ x. bit_or (bit_and x 0) (bit_and (o % 2) 1) ≡ o % 2)
          (digit_case (λ y. bit_or (bit_and 0 0) (bit_and y 1) ≡ y) refl refl o)
          (digit_case (λ y. bit_or (bit_and 1 0) (bit_and y 1) ≡ y) refl refl o) v)
          (digit_case (λ x. bit_or (bit_and x 1) (bit_and (o % 2) 0) ≡ x)
          (digit_case (λ y. bit_or (bit_and 0 1) (bit_and y 0) ≡ 0) refl refl o)
          (digit_case (λ y. bit_or (bit_and 1 1) (bit_and y 0) ≡ 1) refl refl o) v) m

  pub masked_bit : (k old value : ℕ) → k < 8 → bit k (masked mask old value) ≡ cond (bit k mask) (bit k value) (bit k old)
  unfolding bit
  masked_bit k old value h = ap (λ (d : ℕ). eqb d 1) (masked_digit k old value h) ∙ choice (bit k mask)
    where
      choice : (b : Bool) → eqb (cond b (digit k value) (digit k old)) 1 ≡ cond b (bit k value) (bit k old)
      choice true = refl
      choice false = refl

  -- of two writes the later one counts
  pub masked_again : (old value later : ℕ) → masked mask (masked mask old value) later ≡ masked mask old later
  masked_again old value later =
      same_digits 8 _ _ (masked_byte (masked mask old value) later) (masked_byte old later)
      (λ k h. masked_digit k (masked mask old value) later h
      ∙ hidden (bit k mask) (digit k later) (digit k value) (digit k old) (masked_digit k old value h)
      ∙ sym (masked_digit k old later h))
    where
      hidden : (b : Bool) (l v o : ℕ) {m : ℕ} → m ≡ cond b v o → cond b l m ≡ cond b l o
      hidden true l v o e = refl
      hidden false l v o e = e
