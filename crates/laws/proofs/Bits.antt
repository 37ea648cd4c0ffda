-- Laws of digits and bits: two numbers with the same bits are equal; the bits of an and, an or and a complement.
-- Assumes nothing.
use mathlib.Core.Path.{◌≡◌, sym, ap, ◌∙◌}
use mathlib.Core.Bool.{false}
use Prim.Native.Nat.{ℕ, zero, suc, ◌-◌, ◌*◌, ◌/◌, ◌%◌, ◌^◌, ◌<◌, ◌≤◌}
use native.Mathlib.Nat.{mod-lt, zero-lt-suc, div-one, div-eq_of_lt, lt_of_lt_of_le, one-mul}
use native.Mathlib.Omega.{arith}
use lib.Arith.{lt-one}
use lib.Pow.{shr-shr, pow_mono, shl_exact}
use lib.Bits.{bit_and, bit_or, and_shr, and_mod, or_shr, or_mod}
use lib.Dec.{eqb, lit<}
use Rattle.laws.specs.Bits.{digit, bit}

-- a digit is 0 or 1
pub digit_case : (P : ℕ → Type 0) → P 0 → P 1 → (n : ℕ) → P (n % 2)
digit_case P p0 p1 n = go (n % 2) (mod-lt n (zero-lt-suc 1))
  where
    go : (m : ℕ) → m < 2 → P m
    go zero h = p0
    go (suc zero) h = p1
    go (suc (suc m)) h = absurd (omega arith)

-- the digits of a half are those of the whole, from the second on
pub digit_half : (k x : ℕ) → digit k (x / 2) ≡ digit (suc k) x
digit_half k x = ap (λ (t : ℕ). t % 2) (shr-shr x 1 k ∙ ap (λ (t : ℕ). x / 2 ^ t) (omega arith))

pub digit_zero : (x : ℕ) → digit 0 x ≡ x % 2
digit_zero x = ap (λ (t : ℕ). t % 2) (div-one x)

-- two numbers of n bits whose digits are the same are equal
pub same_digits : (n a b : ℕ) → a < 2 ^ n → b < 2 ^ n → ((k : ℕ) → k < n → digit k a ≡ digit k b) → a ≡ b
same_digits zero a b ha hb h = lt-one ha ∙ sym (lt-one hb)
same_digits (suc n) a b ha hb h =
    let low : a % 2 ≡ b % 2 = sym (digit_zero a) ∙ h 0 (omega arith) ∙ digit_zero b in
    let high : a / 2 ≡ b / 2 =
    same_digits n (a / 2) (b / 2) (omega arith) (omega arith)
    (λ k (l : k < n). digit_half k a ∙ h (suc k) (omega arith) ∙ sym (digit_half k b)) in
    omega arith

pub digit_and : (k a b : ℕ) → digit k (bit_and a b) ≡ bit_and (digit k a) (digit k b)
digit_and k a b = ap (λ (t : ℕ). t % 2) (and_shr a b k) ∙ and_mod (a / 2 ^ k) (b / 2 ^ k) 1

pub digit_or : (k a b : ℕ) → digit k (bit_or a b) ≡ bit_or (digit k a) (digit k b)
digit_or k a b = ap (λ (t : ℕ). t % 2) (or_shr a b k) ∙ or_mod (a / 2 ^ k) (b / 2 ^ k) 1

-- the complement of a number of n bits
pub digit_not : (n k m : ℕ) → m < 2 ^ n → k < n → digit k (2 ^ n - 1 - m) ≡ 1 - digit k m
digit_not zero k m hm hk = absurd (omega arith)
digit_not (suc n) zero m hm hk = digit_zero (2 ^ suc n - 1 - m) ∙ parity ∙ ap (λ (t : ℕ). 1 - t) (sym (digit_zero m))
  where
    parity : (2 ^ suc n - 1 - m) % 2 ≡ 1 - m % 2
    parity = omega arith
digit_not (suc n) (suc k) m hm hk =
    let half : (2 ^ suc n - 1 - m) / 2 ≡ 2 ^ n - 1 - m / 2 = omega arith in
    sym (digit_half k (2 ^ suc n - 1 - m))
    ∙ ap (digit k) half
    ∙ digit_not n k (m / 2) (omega arith) (omega arith)
    ∙ ap (λ (t : ℕ). 1 - t) (digit_half k m)

-- a number of n bits has no one from bit n on
pub bit_above : (n k x : ℕ) → x < 2 ^ n → n ≤ k → bit k x ≡ false
unfolding bit
bit_above n k x h l = ap (λ (t : ℕ). eqb (t % 2) 1) (div-eq_of_lt (lt_of_lt_of_le h (pow_mono l)))

-- a one shifted up, within the width
pub one_shifted : (width k : ℕ) → k < width → 1 * 2 ^ k % 2 ^ width ≡ 2 ^ k
one_shifted width k h = shl_exact 1 k width (lit< tt) (omega arith) ∙ one-mul (2 ^ k)
