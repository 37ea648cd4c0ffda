-- What the reading of a header means: what is accepted is near, what is near is read, one flipped bit is named, and two are refused.
-- Assumes nothing.
use mathlib.Core.Path.{◌≡◌, refl, sym, ap, ◌∙◌}
use mathlib.Core.Bool.{Bool, true, false, cond}
use mathlib.Core.Logic.{◌⊎◌, inl, inr}
use Prim.Native.Nat.{ℕ, zero, suc, ◌+◌, ◌-◌, ◌/◌, ◌%◌, ◌^◌, ◌<◌, ◌≤◌}
use native.Mathlib.Omega.{arith}
use borrow.Author.Tests.{eq-eqb, ne_eqb, eqb-true}
use lib.Bits.{bit_xor, xor_lt, xor_self, xor_comm}
use lib.Count.{ones}
use Rattle.laws.specs.Reply.{Reply, refused, given}
use Rattle.laws.proofs.Absurd.{zero_not_one}
use Rattle.laws.proofs.Bitwise.{xor_assoc, xor_twice, xor_zero_eq, at_most_one, ones_pow}
use Rattle.ecc.specs.CheckBytes.{check_byte}
use Rattle.std.specs.Prelude.{Option, None, Some}
use Rattle.ecc.specs.declared.ReadHeader.{ReadHeader}
use Rattle.ecc.specs.HeaderCorrection.{is_right, flipped, correct_from, correction_of, differences}
use Rattle.ecc.specs.HeaderCorrection.{AcceptedIsNear, NearIsRead, FlippedIsNamed, TwoFlippedRefused}
use Rattle.ecc.specs.Syndrome.{syndrome_of, column_of}
use Rattle.ecc.proofs.Linear.{syndrome_linear, right_syndrome, right_flipped}
use Rattle.ecc.proofs.ColumnLaws.{column_nonzero, columns_apart, two_no_column}

-- the reading of a header, and of its bits from bit i on, by the cases
module _ (header : ℕ) where
  pub right_by : header / 2 ^ 24 ≡ check_byte (header % 2 ^ 24) → is_right header ≡ true
  unfolding is_right
  right_by e = eq-eqb (header / 2 ^ 24) (check_byte (header % 2 ^ 24)) e

  pub correct_right : is_right header ≡ true → correction_of header ≡ given (record { header = header; corrected = None })
  unfolding correction_of
  correct_right e = rw e

  pub correct_wrong : is_right header ≡ false → correction_of header ≡ correct_from header 0 32
  unfolding correction_of
  correct_wrong e = rw e

  pub correct_none : (i : ℕ) → 32 ≤ i → correct_from header i (32 - i) ≡ refused 10
  unfolding correct_from
  correct_none i h = let q : 32 - i ≡ 0 = omega arith in rw q

  module _ (i : ℕ) (h : i < 32) where
    correct_here : is_right (flipped header i) ≡ true → correct_from header i (32 - i) ≡ given (record { header = flipped header i; corrected = Some i })
    unfolding correct_from
    correct_here e = let q : 32 - i ≡ suc (32 - (i + 1)) = omega arith in rw (q, e)

    correct_later : is_right (flipped header i) ≡ false → correct_from header i (32 - i) ≡ correct_from header (i + 1) (32 - (i + 1))
    unfolding correct_from
    correct_later e =
        let q : 32 - i ≡ suc (32 - (i + 1)) = omega arith in
        let s : i + 1 ≡ suc i = omega arith in
        rw (q, e, s)

    -- the same by the column of the bit
    pub column_here : column_of i ≡ syndrome_of header → correct_from header i (32 - i) ≡ given (record { header = flipped header i; corrected = Some i })
    column_here e = correct_here (right_flipped header i ∙ eq-eqb (column_of i) (syndrome_of header) e)

    pub column_later : (column_of i ≡ syndrome_of header → ⊥) → correct_from header i (32 - i) ≡ correct_from header (i + 1) (32 - (i + 1))
    column_later e = correct_later (right_flipped header i ∙ ne_eqb (column_of i) (syndrome_of header) e)

  -- what holds of refusal 10 and of every right header that the reading can give holds of the reading
  module _ (P : Reply ReadHeader → Type 0) (refusal : P (refused 10))
      (bit : (i : ℕ) → i < 32 → is_right (flipped header i) ≡ true → P (given (record { header = flipped header i; corrected = Some i }))) where
    from_bit : (n i : ℕ) → i + n ≤ 32 → P (correct_from header i n)
    unfolding correct_from
    from_bit zero i h = refusal
    from_bit (suc n) i h = go (is_right (flipped header i)) refl (from_bit n (suc i) (omega arith))
      where
        go : (b : Bool) → is_right (flipped header i) ≡ b → P (correct_from header (suc i) n)
            → P (cond b (given (record { header = flipped header i; corrected = Some i })) (correct_from header (suc i) n))
        go true r later = bit i (omega arith) r
        go false r later = later

    pub by_correction : (is_right header ≡ true → P (given (record { header = header; corrected = None }))) → P (correction_of header)
    unfolding correction_of
    by_correction right = go (is_right header) refl
      where
        go : (b : Bool) → is_right header ≡ b → P (cond b (given (record { header = header; corrected = None })) (correct_from header 0 32))
        go true r = right r
        go false r = from_bit 32 0 (omega arith)

pub accepted_is_near : AcceptedIsNear
unfolding ones
accepted_is_near header read =
    by_correction header (λ reply. reply ≡ given read → (is_right read.header ≡ true) × (differences header read.header ≤ 1))
    (λ e. zero_not_one (cc)) one none
  where
    one : (i : ℕ) → i < 32 → is_right (flipped header i) ≡ true → given (record { header = flipped header i; corrected = Some i }) ≡ given read
        → (is_right read.header ≡ true) × (differences header read.header ≤ 1)
    one i h r e =
        let s : flipped header i ≡ read.header = cc in
        let d : differences header read.header ≡ 1 = ap (differences header) (sym s) ∙ ap ones (xor_twice header (2 ^ i)) ∙ ones_pow i in
        (ap is_right (sym s) ∙ r, omega arith)

    none : is_right header ≡ true → given (record { header = header; corrected = None }) ≡ given read
        → (is_right read.header ≡ true) × (differences header read.header ≤ 1)
    none r e =
        let s : header ≡ read.header = cc in
        let d : differences header read.header ≡ 0 = ap (differences header) (sym s) ∙ ap ones (xor_self header) in
        (ap is_right (sym s) ∙ r, omega arith)

-- the bit i makes a header right, so no earlier one does
module _ (header i : ℕ) (h : i < 32) (right : is_right (flipped header i) ≡ true) where
  column : column_of i ≡ syndrome_of header
  column = eqb-true (column_of i) (syndrome_of header) (sym (right_flipped header i) ∙ right)

  earlier : (j : ℕ) → j < i → is_right (flipped header j) ≡ false
  earlier j l =
      right_flipped header j
      ∙ ne_eqb (column_of j) (syndrome_of header) (λ e. let s : j ≡ i = columns_apart j i (omega arith) h (e ∙ sym column) in omega arith)

  wrong : is_right header ≡ false
  wrong = right_syndrome header ∙ ne_eqb (syndrome_of header) 0 (λ e. column_nonzero i h (column ∙ e))

  found : (k j : ℕ) → k + j ≡ i → correct_from header k (32 - k) ≡ given (record { header = flipped header i; corrected = Some i })
  found k zero e = let s : k ≡ i = omega arith in rw s (correct_here header i h right)
  found k (suc j) e = correct_later header k (omega arith) (earlier k (omega arith)) ∙ found (k + 1) j (omega arith)

  corrected_read : correction_of header ≡ given (record { header = flipped header i; corrected = Some i })
  corrected_read = correct_wrong header wrong ∙ found 0 i (omega arith)

pub near_is_read : NearIsRead
near_is_read header right hh hr r l = go (at_most_one 32 (bit_xor header right) (xor_lt 32 header right hh hr) l)
  where
    go : (bit_xor header right ≡ 0) ⊎ ((i : ℕ) × (i < 32) × (bit_xor header right ≡ 2 ^ i))
        → (corrected : Option ℕ) × (correction_of header ≡ given (record { header = right; corrected = corrected }))
    go (inl z) = let e : header ≡ right = xor_zero_eq header right z in (None, rw e (correct_right right r))
    go (inr w) =
        let i = w.0 in
        let e : flipped header i ≡ right = ap (bit_xor header) (sym w.2) ∙ xor_twice header right in
        (Some i, corrected_read header i w.1 (ap is_right e ∙ r) ∙ rw e)

pub flipped_is_named : FlippedIsNamed
flipped_is_named right i hr hi r =
    let back : flipped (flipped right i) i ≡ right =
    xor_assoc right (2 ^ i) (2 ^ i) ∙ ap (bit_xor right) (xor_self (2 ^ i)) ∙ xor_comm right 0 in
    corrected_read (flipped right i) i hi (ap is_right back ∙ r) ∙ rw back

pub two_flipped_refused : TwoFlippedRefused
unfolding column_of
two_flipped_refused right i j hi hj apart r =
    let two = flipped (flipped right i) j in
    let none : syndrome_of right ≡ 0 = eqb-true (syndrome_of right) 0 (sym (right_syndrome right) ∙ r) in
    let both : syndrome_of two ≡ bit_xor (column_of i) (column_of j) =
    syndrome_linear (flipped right i) (2 ^ j)
    ∙ ap (λ (t : ℕ). bit_xor t (column_of j)) (syndrome_linear right (2 ^ i) ∙ ap (λ (t : ℕ). bit_xor t (column_of i)) none) in
    by_correction two (λ reply. reply ≡ refused 10) refl
    (λ k h e. absurd (two_no_column i j k hi hj h (eqb-true (column_of k) (syndrome_of two) (sym (right_flipped two k) ∙ e) ∙ both)))
    (λ e.
    let z : syndrome_of two ≡ 0 = eqb-true (syndrome_of two) 0 (sym (right_syndrome two) ∙ e) in
    absurd (apart (columns_apart i j hi hj (xor_zero_eq (column_of i) (column_of j) (sym both ∙ z)))))
