-- The check byte and the syndrome are linear: that of an exclusive-or is the exclusive-or of those of its parts.
-- Assumes nothing.
use mathlib.Core.Path.{◌≡◌, refl, sym, ap, ap₂, ◌∙◌}
use mathlib.Core.List.{List, [], ◌∷◌}
use Prim.Native.Nat.{ℕ, zero, suc, ◌/◌, ◌%◌, ◌^◌, ◌<◌}
use native.Mathlib.Omega.{arith}
use lib.Bits.{bit_xor, xor_lt, xor_mod, xor_shr, xor_comm}
use lib.Dec.{eqb}
use Rattle.laws.specs.Bits.{digit}
use Rattle.laws.proofs.Bits.{same_digits}
use Rattle.laws.proofs.Bitwise.{digit_xor, xor_swap, parity_add, eqb_xor}
use Rattle.ecc.specs.CheckBytes.{ones_among, odd_among, P0, P1, P2, P3, P4, P5, check_byte}
use Rattle.ecc.specs.HeaderCorrection.{is_right, flipped}
use Rattle.ecc.specs.Syndrome.{syndrome_of, column_of}

pub odd_linear : (places : List ℕ) (a b : ℕ) → odd_among places (bit_xor a b) ≡ bit_xor (odd_among places a) (odd_among places b)
unfolding ones_among
odd_linear [] a b = refl
odd_linear (i ∷ places) a b =
    parity_add (digit i (bit_xor a b)) (ones_among places (bit_xor a b))
    ∙ ap₂ bit_xor (ap (λ (t : ℕ). t % 2) (digit_xor i a b) ∙ xor_mod (digit i a) (digit i b) 1) (odd_linear places a b)
    ∙ xor_swap (digit i a % 2) (digit i b % 2) (odd_among places a) (odd_among places b)
    ∙ sym (ap₂ bit_xor (parity_add (digit i a) (ones_among places a)) (parity_add (digit i b) (ones_among places b)))

-- the data bits of check bit k
data_bits : ℕ → List ℕ
data_bits zero = P0
data_bits (suc zero) = P1
data_bits (suc (suc zero)) = P2
data_bits (suc (suc (suc zero))) = P3
data_bits (suc (suc (suc (suc zero)))) = P4
data_bits (suc (suc (suc (suc (suc k))))) = P5

digit_check : (k word : ℕ) → k < 6 → digit k (check_byte word) ≡ odd_among (data_bits k) word
unfolding check_byte data_bits
digit_check zero word h = omega arith
digit_check (suc zero) word h = omega arith
digit_check (suc (suc zero)) word h = omega arith
digit_check (suc (suc (suc zero))) word h = omega arith
digit_check (suc (suc (suc (suc zero)))) word h = omega arith
digit_check (suc (suc (suc (suc (suc zero))))) word h = omega arith
digit_check (suc (suc (suc (suc (suc (suc k)))))) word h = absurd (omega arith)

pub check_small : (word : ℕ) → check_byte word < 2 ^ 6
unfolding check_byte
check_small word = omega arith

pub check_linear : (a b : ℕ) → check_byte (bit_xor a b) ≡ bit_xor (check_byte a) (check_byte b)
check_linear a b =
    same_digits 6 _ _ (check_small (bit_xor a b)) (xor_lt 6 (check_byte a) (check_byte b) (check_small a) (check_small b))
    (λ k h. digit_check k (bit_xor a b) h
    ∙ odd_linear (data_bits k) a b
    ∙ sym (digit_xor k (check_byte a) (check_byte b) ∙ ap₂ bit_xor (digit_check k a h) (digit_check k b h)))

pub syndrome_linear : (a b : ℕ) → syndrome_of (bit_xor a b) ≡ bit_xor (syndrome_of a) (syndrome_of b)
unfolding syndrome_of
syndrome_linear a b =
    ap₂ bit_xor (ap check_byte (xor_mod a b 24) ∙ check_linear (a % 2 ^ 24) (b % 2 ^ 24)) (xor_shr a b 24)
    ∙ xor_swap (check_byte (a % 2 ^ 24)) (check_byte (b % 2 ^ 24)) (a / 2 ^ 24) (b / 2 ^ 24)

-- a header is right exactly where its syndrome is zero, and with bit i flipped exactly where it is that bit's column
pub right_syndrome : (header : ℕ) → is_right header ≡ eqb (syndrome_of header) 0
unfolding is_right syndrome_of
right_syndrome header =
    eqb_xor (header / 2 ^ 24) (check_byte (header % 2 ^ 24)) ∙ ap (λ (t : ℕ). eqb t 0) (xor_comm (header / 2 ^ 24) (check_byte (header % 2 ^ 24)))

pub right_flipped : (header i : ℕ) → is_right (flipped header i) ≡ eqb (column_of i) (syndrome_of header)
unfolding column_of
right_flipped header i =
    right_syndrome (flipped header i)
    ∙ ap (λ (t : ℕ). eqb t 0) (syndrome_linear header (2 ^ i) ∙ xor_comm (syndrome_of header) (syndrome_of (2 ^ i)))
    ∙ sym (eqb_xor (syndrome_of (2 ^ i)) (syndrome_of header))
