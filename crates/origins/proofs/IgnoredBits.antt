-- Bits of a value are ignored exactly where one is set that is not writable.
-- Assumes nothing.
use Rattle.std.proofs.Common.{◌≡◌, ℕ, zero, suc, ◌-◌, ◌/◌, ◌%◌, ◌^◌, ◌<◌, Bool, true, false, cond, not, ◌&&◌, eqb, ◌⊎◌, sym, refl, ap, ◌∙◌, inl, inr, le_of_suc-le-suc, eq-or-lt_of_le, arith, lit<, pow_pos, eq-eqb, ne_eqb}
use native.Mathlib.Nat.{div-eq_of_lt}
use borrow.Author.Tests.{not-true}
use lib.Bits.{bit_and, and_le_r}
use Rattle.laws.specs.Bits.{digit, bit}
use Rattle.laws.proofs.Absurd.{zero_not_one}
use Rattle.laws.proofs.Bits.{digit_case, same_digits, digit_and, digit_not}
use Rattle.laws.proofs.Bools.{both}
use Rattle.registers.specs.RegisterMap.{mask_of}
use Rattle.origins.specs.Effects.{ignores_bits, IgnoredBit, IgnoresMeans, EveryIgnoredBit}
use Rattle.origins.proofs.OneWrite.{mask_byte}

-- a number below n that passes a test, or none does
data FirstBelow (test : ℕ → Bool) (n : ℕ) : Type 0 where
  found : (k : ℕ) → k < n → test k ≡ true → FirstBelow test n
  none : ((k : ℕ) → k < n → test k ≡ false) → FirstBelow test n

first_below : (test : ℕ → Bool) (n : ℕ) → FirstBelow test n
first_below test zero = none (λ k (h : k < 0). absurd (omega arith))
first_below test (suc n) = go (test n) refl (first_below test n)
  where
    last : test n ≡ false → ((k : ℕ) → k < n → test k ≡ false) → (k : ℕ) → (k ≡ n) ⊎ (k < n) → test k ≡ false
    last e all k (inl q) = rw q e
    last e all k (inr l) = all k l

    go : (b : Bool) → test n ≡ b → FirstBelow test n → FirstBelow test (suc n)
    go b e (found k h t) = found k (omega arith) t
    go true e (none all) = found n (omega arith) e
    go false e (none all) = none (λ k h. last e all k (eq-or-lt_of_le (le_of_suc-le-suc h)))

-- the bits of the value that are not writable, and whether bit k is one
abbrev outside : ℕ → ℕ → ℕ
outside offset value = bit_and value (255 - mask_of offset)

abbrev ignored : ℕ → ℕ → ℕ → Bool
ignored offset value k = bit k value && not (bit k (mask_of offset))

module _ (offset value : ℕ) (small : offset < 256) where
  outside_digit : (k : ℕ) → k < 8 → digit k (outside offset value) ≡ cond (ignored offset value k) 1 0
  unfolding bit
  outside_digit k h =
      digit_and k value (255 - mask_of offset)
      ∙ ap (bit_and (digit k value)) (digit_not 8 k (mask_of offset) (mask_byte offset small) h)
      ∙ chosen (value / 2 ^ k) (mask_of offset / 2 ^ k)
    where
      chosen : (v m : ℕ) → bit_and (v % 2) (1 - m % 2) ≡ cond (eqb (v % 2) 1 && not (eqb (m % 2) 1)) 1 0
      chosen v m =
          digit_case (λ x. bit_and x (1 - m % 2) ≡ cond (eqb x 1 && not (eqb (m % 2) 1)) 1 0)
          (digit_case (λ y. bit_and 0 (1 - y) ≡ 0) refl refl m)
          (digit_case (λ y. bit_and 1 (1 - y) ≡ cond (not (eqb y 1)) 1 0) refl refl m) v

  nothing_outside : ((k : ℕ) → k < 8 → ignored offset value k ≡ false) → outside offset value ≡ 0
  nothing_outside all =
      same_digits 8 (outside offset value) 0 (omega (arith, and_le_r value (255 - mask_of offset))) (lit< tt)
      (λ k (h : k < 8). outside_digit k h
      ∙ ap (λ (b : Bool). cond b 1 0) (all k h)
      ∙ sym (ap (λ (n : ℕ). n % 2) (div-eq_of_lt (pow_pos k))))

  some_outside : (k : ℕ) → k < 8 → ignored offset value k ≡ true → outside offset value ≡ 0 → ⊥
  some_outside k h e z =
      let one : digit k (outside offset value) ≡ 1 = outside_digit k h ∙ ap (λ (b : Bool). cond b 1 0) e in
      let none : digit k 0 ≡ 0 = ap (λ (n : ℕ). n % 2) (div-eq_of_lt (pow_pos k)) in
      zero_not_one (sym none ∙ rw z at one)

  pub ignores_means : IgnoresMeans offset value
  ignores_means =
      record {
        only = λ e. by_search (first_below (ignored offset value) 8) e;
        every = λ b. ap not (ne_eqb _ 0 (some_outside b.place b.within (rw (b.set, b.unwritable))));
      }
    where
      by_search : FirstBelow (ignored offset value) 8 → ignores_bits offset value ≡ true → IgnoredBit offset value
      by_search (found k h t) e =
          let two = both (bit k value) (not (bit k (mask_of offset))) t in
          record { place = k; within = h; set = two.0; unwritable = not-true _ two.1 }
      by_search (none all) e = let z = eq-eqb _ 0 (nothing_outside all) in zero_not_one (cc)

pub every_ignored_bit : EveryIgnoredBit
every_ignored_bit offset value small = ignores_means offset value small
