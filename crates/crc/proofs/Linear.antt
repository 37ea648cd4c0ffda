-- Linear maps of numbers as lists of bits: how they are made, and that two agree where they agree on the powers of two.
-- Assumes nothing.
use mathlib.Core.Path.{◌≡◌, refl, sym, ap, ap₂, ◌∙◌}
use Prim.Native.Nat.{ℕ, zero, suc, ◌+◌, ◌*◌, ◌/◌, ◌%◌, ◌^◌, ◌<◌}
use native.Mathlib.Nat.{mod-lt, one-mul, zero-mul}
use native.Mathlib.Numerals.{one-add}
use native.Mathlib.Omega.{arith}
use lib.Arith.{lt-one}
use lib.Bits.{bit_xor, xor_shr, xor_mod, xor_self, xor_block, xor_shifted}
use lib.Dec.{T, eqb}
use lib.Pow.{pow_pos, split, shr_lt}
use borrow.Author.Tests.{eqb-true}
use Rattle.laws.proofs.Bitwise.{xor_swap}
use Rattle.laws.proofs.Tables.{all_below, true_below}

pub record Linear (f : ℕ → ℕ) : Type 0 where
  pub splits : (a b : ℕ) → f (bit_xor a b) ≡ bit_xor (f a) (f b)

pub same : Linear (λ x. x)
same = record { splits = λ a b. refl }

pub both : {f g : ℕ → ℕ} → Linear f → Linear g → Linear (λ x. bit_xor (f x) (g x))
both {f} {g} l m = record { splits = λ a b. ap₂ bit_xor (l.splits a b) (m.splits a b) ∙ xor_swap (f a) (f b) (g a) (g b) }

pub after : {f g : ℕ → ℕ} → Linear f → Linear g → Linear (λ x. f (g x))
after {f} {g} l m = record { splits = λ a b. ap f (m.splits a b) ∙ l.splits (g a) (g b) }

pub down : (k : ℕ) → Linear (λ x. x / 2 ^ k)
down k = record { splits = λ a b. xor_shr a b k }

pub low : (k : ℕ) → Linear (λ x. x % 2 ^ k)
low k = record { splits = λ a b. xor_mod a b k }

pub up : (k : ℕ) → Linear (λ x. x * 2 ^ k)
up k =
    record {
      splits = λ a b.
          let e : (x : ℕ) → x * 2 ^ k + 0 ≡ x * 2 ^ k = λ x. omega arith in
          sym (ap₂ bit_xor (sym (e a)) (sym (e b)) ∙ xor_block k a b 0 0 (pow_pos k) (pow_pos k) ∙ e (bit_xor a b));
    }

-- a linear map takes 0 to 0
at_zero : {f : ℕ → ℕ} → Linear f → f 0 ≡ 0
at_zero {f} l = l.splits 0 0 ∙ xor_self (f 0)

module _ {f g : ℕ → ℕ} (l : Linear f) (m : Linear g) where
  -- where they agree on the first n powers of two they agree below 2 ^ n
  on_powers : (n : ℕ) → ((j : ℕ) → j < n → f (2 ^ j) ≡ g (2 ^ j)) → (x : ℕ) → x < 2 ^ n → f x ≡ g x
  on_powers zero h x b = rw (lt-one b) (at_zero l ∙ sym (at_zero m))
  on_powers (suc n) h x b =
      let rest = mod-lt x (pow_pos n) in
      let whole : x ≡ bit_xor (x / 2 ^ n * 2 ^ n) (x % 2 ^ n) = sym (xor_shifted (x / 2 ^ n) n (x % 2 ^ n) rest ∙ split x n) in
      ap f whole ∙ l.splits _ _
      ∙ ap₂ bit_xor (top (x / 2 ^ n) (shr_lt 1 n (rw one-add b))) (on_powers n (λ j (s : j < n). h j (omega arith)) (x % 2 ^ n) rest)
      ∙ sym (ap g whole ∙ m.splits _ _)
    where
      top : (d : ℕ) → d < 2 → f (d * 2 ^ n) ≡ g (d * 2 ^ n)
      top zero s = rw zero-mul (at_zero l ∙ sym (at_zero m))
      top (suc zero) s = ap f (one-mul (2 ^ n)) ∙ h n (omega arith) ∙ sym (ap g (one-mul (2 ^ n)))
      top (suc (suc d)) s = absurd (omega arith)

  -- the same by a test that was computed
  pub by_powers : (n : ℕ) → T (all_below (λ j. eqb (f (2 ^ j)) (g (2 ^ j))) n) → (x : ℕ) → x < 2 ^ n → f x ≡ g x
  by_powers n t = on_powers n (λ j (h : j < n). eqb-true _ _ (true_below (λ j. eqb (f (2 ^ j)) (g (2 ^ j))) n t j h))
