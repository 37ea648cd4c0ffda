-- The 32 columns: a data bit's is its constant, a check bit's is the bit itself, none is zero, no two are the same, and all have an odd number of ones,
-- each by one computed test.
-- Assumes nothing.
use mathlib.Core.Path.{◌≡◌, sym, ap, ap₂, ◌∙◌}
use mathlib.Core.Bool.{Bool, ◌||◌, not}
use mathlib.Core.List.{List, [], ◌∷◌}
use Prim.Native.Nat.{ℕ, ◌+◌, ◌-◌, ◌^◌, ◌<◌, ◌≤◌}
use native.Mathlib.Omega.{arith}
use borrow.Author.Tests.{eq-eqb}
use lib.Bits.{bit_xor}
use lib.Dec.{eqb, eqb→eq}
use Rattle.laws.proofs.Absurd.{zero_not_one}
use Rattle.laws.proofs.Tables.{all_below, below_at}
use Rattle.ecc.specs.CheckBytes.{ones_among, odd_among, check_byte}
use Rattle.ecc.specs.Columns.{data_column}
use Rattle.ecc.specs.Syndrome.{syndrome_of, column_of}
use Rattle.ecc.proofs.Linear.{odd_linear}

data_bit : ℕ → Bool
data_bit i = eqb (column_of i) (data_column i)

pub data_column_lem : (i : ℕ) → i < 24 → column_of i ≡ data_column i
unfolding all_below data_bit column_of syndrome_of data_column check_byte ones_among
data_column_lem i h = eqb→eq (column_of i) (data_column i) (below_at data_bit 24 tt i h)

check_bit : ℕ → Bool
check_bit k = eqb (column_of (24 + k)) (2 ^ k)

pub check_column : (i : ℕ) → 24 ≤ i → i < 32 → column_of i ≡ 2 ^ (i - 24)
unfolding all_below check_bit column_of syndrome_of check_byte ones_among
check_column i l h =
    let k = i - 24 in
    let e : 24 + k ≡ i = omega arith in
    ap column_of (sym e) ∙ eqb→eq (column_of (24 + k)) (2 ^ k) (below_at check_bit 8 tt k (omega arith))

nonzero : ℕ → Bool
nonzero i = not (eqb (column_of i) 0)

pub column_nonzero : (i : ℕ) → i < 32 → column_of i ≡ 0 → ⊥
unfolding all_below nonzero column_of syndrome_of check_byte ones_among
column_nonzero i h e = rw (eq-eqb (column_of i) 0 e) at (below_at nonzero 32 tt i h)

-- two columns that are the same are those of one bit
apart : ℕ → ℕ → Bool
apart i j = not (eqb (column_of i) (column_of j)) || eqb i j

apart_from_all : ℕ → Bool
apart_from_all i = all_below (apart i) 32

pub columns_apart : (i j : ℕ) → i < 32 → j < 32 → column_of i ≡ column_of j → i ≡ j
unfolding all_below apart_from_all apart column_of syndrome_of check_byte ones_among
columns_apart i j hi hj e =
    eqb→eq i j (rw (eq-eqb (column_of i) (column_of j) e) at (below_at (apart i) 32 (below_at apart_from_all 32 tt i hi) j hj))

-- every column has an odd number of ones, so the exclusive-or of two is no column
eight_bits : List ℕ
eight_bits = 0 ∷ 1 ∷ 2 ∷ 3 ∷ 4 ∷ 5 ∷ 6 ∷ 7 ∷ []

odd_column : ℕ → Bool
odd_column i = eqb (odd_among eight_bits (column_of i)) 1

column_odd : (i : ℕ) → i < 32 → odd_among eight_bits (column_of i) ≡ 1
unfolding all_below odd_column eight_bits column_of syndrome_of check_byte ones_among
column_odd i h = eqb→eq (odd_among eight_bits (column_of i)) 1 (below_at odd_column 32 tt i h)

pub two_no_column : (i j k : ℕ) → i < 32 → j < 32 → k < 32 → column_of k ≡ bit_xor (column_of i) (column_of j) → ⊥
two_no_column i j k hi hj hk e =
    let even = odd_linear eight_bits (column_of i) (column_of j) ∙ ap₂ bit_xor (column_odd i hi) (column_odd j hj) in
    zero_not_one (sym even ∙ ap (odd_among eight_bits) (sym e) ∙ column_odd k hk)
