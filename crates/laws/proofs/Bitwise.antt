-- Laws of or and exclusive-or, by the digits of the numbers, and of the parity of a count of ones.
-- Assumes nothing.
use mathlib.Core.Path.{◌≡◌, refl, sym, ap, ap₂, ◌∙◌}
use mathlib.Core.Bool.{Bool, true, false}
use mathlib.Core.Logic.{◌⊎◌, inl, inr}
use Prim.Native.Nat.{ℕ, zero, suc, ◌+◌, ◌*◌, ◌/◌, ◌%◌, ◌^◌, ◌<◌, ◌≤◌}
use native.Mathlib.Nat.{pow-suc, one-mul, add-zero, lt_of_lt_of_le}
use native.Mathlib.Omega.{arith}
use lib.Arith.{lt-one}
use lib.Pow.{pow_mono, pow_pos}
use lib.Bits.{bit_or, bit_xor, xor_shr, xor_mod, xor_zero_r, xor_self, xor_comm, xor_block}
use lib.Count.{ones, ones_step, ones_cat}
use lib.Dec.{eqb}
use borrow.Author.Tests.{eq-eqb, ne_eqb, eqb-true, eqb-false}
use Rattle.laws.specs.Bits.{digit}
use Rattle.laws.proofs.Bits.{digit_case, same_digits, digit_or}

-- a number is below its power of two
below_pow : (a : ℕ) → a < 2 ^ a
below_pow zero = omega arith
below_pow (suc a) = let h = below_pow a in omega arith

-- two numbers whose digits are all the same are equal
by_digits : (a b : ℕ) → ((k : ℕ) → digit k a ≡ digit k b) → a ≡ b
by_digits a b h =
    same_digits (a + b) a b
    (lt_of_lt_of_le (below_pow a) (pow_mono (omega arith)))
    (lt_of_lt_of_le (below_pow b) (pow_mono (omega arith)))
    (λ k l. h k)

pub digit_xor : (k a b : ℕ) → digit k (bit_xor a b) ≡ bit_xor (digit k a) (digit k b)
digit_xor k a b = ap (λ (t : ℕ). t % 2) (xor_shr a b k) ∙ xor_mod (a / 2 ^ k) (b / 2 ^ k) 1

-- what holds of three digits in all eight cases
three_digits : (P : ℕ → ℕ → ℕ → Type 0) → P 0 0 0 → P 0 0 1 → P 0 1 0 → P 0 1 1 → P 1 0 0 → P 1 0 1 → P 1 1 0 → P 1 1 1
    → (a b c : ℕ) → P (a % 2) (b % 2) (c % 2)
three_digits P p000 p001 p010 p011 p100 p101 p110 p111 a b c =
    digit_case (λ x. P x (b % 2) (c % 2))
    (digit_case (λ y. P 0 y (c % 2)) (digit_case (λ z. P 0 0 z) p000 p001 c) (digit_case (λ z. P 0 1 z) p010 p011 c) b)
    (digit_case (λ y. P 1 y (c % 2)) (digit_case (λ z. P 1 0 z) p100 p101 c) (digit_case (λ z. P 1 1 z) p110 p111 c) b) a

pub xor_assoc : (a b c : ℕ) → bit_xor (bit_xor a b) c ≡ bit_xor a (bit_xor b c)
xor_assoc a b c =
    by_digits _ _
    (λ k. simp digit_xor
    (three_digits (λ x y z. bit_xor (bit_xor x y) z ≡ bit_xor x (bit_xor y z)) refl refl refl refl refl refl refl refl
    (a / 2 ^ k) (b / 2 ^ k) (c / 2 ^ k)))

pub or_assoc : (a b c : ℕ) → bit_or (bit_or a b) c ≡ bit_or a (bit_or b c)
or_assoc a b c =
    by_digits _ _
    (λ k. simp digit_or
    (three_digits (λ x y z. bit_or (bit_or x y) z ≡ bit_or x (bit_or y z)) refl refl refl refl refl refl refl refl
    (a / 2 ^ k) (b / 2 ^ k) (c / 2 ^ k)))

-- the middle two of four change places
pub xor_swap : (a b c d : ℕ) → bit_xor (bit_xor a b) (bit_xor c d) ≡ bit_xor (bit_xor a c) (bit_xor b d)
xor_swap a b c d =
    xor_assoc a b (bit_xor c d)
    ∙ ap (bit_xor a) (sym (xor_assoc b c d) ∙ ap (λ (t : ℕ). bit_xor t d) (xor_comm b c) ∙ xor_assoc c b d)
    ∙ sym (xor_assoc a c (bit_xor b d))

-- twice is not at all
pub xor_twice : (a b : ℕ) → bit_xor a (bit_xor a b) ≡ b
xor_twice a b = sym (xor_assoc a a b) ∙ ap (λ (t : ℕ). bit_xor t b) (xor_self a)

pub xor_zero_eq : (a b : ℕ) → bit_xor a b ≡ 0 → a ≡ b
xor_zero_eq a b e = sym (xor_zero_r a) ∙ ap (bit_xor a) (sym e) ∙ xor_twice a b

-- two numbers are equal exactly where nothing is left of their exclusive-or
pub eqb_xor : (a b : ℕ) → eqb a b ≡ eqb (bit_xor a b) 0
eqb_xor a b = go (eqb a b) refl
  where
    go : (t : Bool) → eqb a b ≡ t → eqb a b ≡ eqb (bit_xor a b) 0
    go true e = e ∙ sym (eq-eqb (bit_xor a b) 0 (ap (λ (t : ℕ). bit_xor t b) (eqb-true a b e) ∙ xor_self b))
    go false e = e ∙ sym (ne_eqb (bit_xor a b) 0 (λ z. eqb-false a b e (xor_zero_eq a b z)))

-- the parity of a sum
pub parity_add : (a b : ℕ) → (a + b) % 2 ≡ bit_xor (a % 2) (b % 2)
parity_add a b =
    let e : (a + b) % 2 ≡ (a % 2 + b % 2) % 2 = omega arith in
    e ∙ digit_case (λ x. (x + b % 2) % 2 ≡ bit_xor x (b % 2))
    (digit_case (λ y. (0 + y) % 2 ≡ bit_xor 0 y) refl refl b)
    (digit_case (λ y. (1 + y) % 2 ≡ bit_xor 1 y) refl refl b) a

-- a number of n bits with no one is zero, and one with at most one is zero or a power of two
no_ones : (n x : ℕ) → x < 2 ^ n → ones x ≡ 0 → x ≡ 0
no_ones zero x h e = lt-one h
no_ones (suc n) x h e =
    let s = ones_step x in
    let z = no_ones n (x / 2) (omega arith) (omega arith) in
    omega arith

pub at_most_one : (n x : ℕ) → x < 2 ^ n → ones x ≤ 1 → (x ≡ 0) ⊎ ((i : ℕ) × (i < n) × (x ≡ 2 ^ i))
at_most_one zero x h l = inl (lt-one h)
at_most_one (suc n) x h l = go (at_most_one n (x / 2) (omega arith)) (x % 2) refl
  where
    even : x % 2 ≡ 0 → (x / 2 ≡ 0) ⊎ ((i : ℕ) × (i < n) × (x / 2 ≡ 2 ^ i)) → (x ≡ 0) ⊎ ((i : ℕ) × (i < suc n) × (x ≡ 2 ^ i))
    even e (inl z) = inl (omega arith)
    even e (inr w) = let p = pow-suc 2 w.0 in inr (suc w.0, omega arith, omega arith)

    go : (ones (x / 2) ≤ 1 → (x / 2 ≡ 0) ⊎ ((i : ℕ) × (i < n) × (x / 2 ≡ 2 ^ i))) → (d : ℕ) → x % 2 ≡ d
        → (x ≡ 0) ⊎ ((i : ℕ) × (i < suc n) × (x ≡ 2 ^ i))
    go ih zero e = let s = ones_step x in even e (ih (omega arith))
    go ih (suc d) e =
        let s = ones_step x in
        let z = no_ones n (x / 2) (omega arith) (omega arith) in
        inr (zero, omega arith, omega arith)

pub ones_pow : (i : ℕ) → ones (2 ^ i) ≡ 1
unfolding ones
ones_pow i = ap ones (sym (add-zero (1 * 2 ^ i) ∙ one-mul (2 ^ i))) ∙ ones_cat i 1 0 (pow_pos i)

-- an exclusive-or with a number of k bits changes the low k bits alone
pub xor_low : (k low high x : ℕ) → low < 2 ^ k → x < 2 ^ k → bit_xor (low + 2 ^ k * high) x ≡ bit_xor low x + 2 ^ k * high
xor_low k low high x hl hx =
    let whole : low + 2 ^ k * high ≡ high * 2 ^ k + low = omega arith in
    let none : x ≡ 0 * 2 ^ k + x = omega arith in
    ap₂ bit_xor whole none ∙ xor_block k high 0 low x hl hx ∙ ap (λ (h : ℕ). h * 2 ^ k + bit_xor low x) (xor_zero_r high) ∙ omega arith

-- an exclusive-or with a number whose low k bits are 0 keeps the low k bits
pub xor_high : (k low high x : ℕ) → low < 2 ^ k → bit_xor (low + 2 ^ k * high) (2 ^ k * x) ≡ low + 2 ^ k * bit_xor high x
xor_high k low high x hl =
    let whole : low + 2 ^ k * high ≡ high * 2 ^ k + low = omega arith in
    let none : 2 ^ k * x ≡ x * 2 ^ k + 0 = omega arith in
    ap₂ bit_xor whole none ∙ xor_block k high x low 0 hl (pow_pos k) ∙ ap (λ (l : ℕ). bit_xor high x * 2 ^ k + l) (xor_zero_r low) ∙ omega arith
