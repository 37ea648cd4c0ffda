-- One and the same line: the law of it, and that it is one line and no number without a line.
-- Assumes nothing.
use mathlib.Core.Path.{◌≡◌, refl, sym, ◌∙◌}
use mathlib.Core.Bool.{Bool, true, false, cond, not, ◌&&◌}
use mathlib.Core.List.Memᴰ
use mathlib.Core.List.{List, [], ◌∷◌, Memᴰ}
use mathlib.Core.Logic.{⊎_elim}
use Prim.Native.Nat.{ℕ}
use native.Mathlib.Omega.{arith}
use borrow.Author.Tests.{eq-eqb, ne_eqb, eqb-true, eqb-false, not-true}
use lib.Dec.{eqb}
use lib.ListN.{length}
use Rattle.laws.proofs.Absurd.{zero_not_one}
use Rattle.laws.proofs.Bools.{both}
use Rattle.endstate.specs.RisingLines.{in_place, with_line, rising_lines, all_are, one_line, OneLine}
use Rattle.endstate.specs.RisingLines.{OneLineExact}
use Rattle.endstate.specs.Gathering.{some_unset}
use Rattle.endstate.proofs.RisingLines.{lines_mean}

all_are_only : (line : ℕ) (numbers : List ℕ) → all_are line numbers ≡ true → (number : ℕ) → Memᴰ number numbers
    → number ≡ line
unfolding all_are
all_are_only line [] e number m = absurd (elim m [ ])
all_are_only line (x ∷ xs) e number m =
    let b = both (eqb x line) (all_are line xs) e in
    ⊎_elim (λ q. q ∙ eqb-true x line b.0) (λ t. all_are_only line xs b.1 number t) (Memᴰ.cases_cons m)

all_are_every : (line : ℕ) (numbers : List ℕ) → ((number : ℕ) → Memᴰ number numbers → number ≡ line)
    → all_are line numbers ≡ true
unfolding all_are
all_are_every line [] h = refl
all_are_every line (x ∷ xs) h =
    rw (eq-eqb x line (h x (Memᴰ.head refl))) (all_are_every line xs (λ number m. h number (Memᴰ.tail m)))

one_line_only : (numbers : List ℕ) → one_line numbers ≡ true → OneLine numbers
unfolding one_line
one_line_only [] e = zero_not_one (cc)
one_line_only (x ∷ xs) e =
    let b = both (not (eqb x 0)) (all_are x xs) e in
    record {
      line = x;
      is_line = eqb-false x 0 (not-true (eqb x 0) b.0);
      some = Memᴰ.head refl;
      all = λ number m. ⊎_elim (λ q. q) (λ t. all_are_only x xs b.1 number t) (Memᴰ.cases_cons m);
    }

one_line_every : (numbers : List ℕ) → OneLine numbers → one_line numbers ≡ true
unfolding one_line
one_line_every [] o = absurd (elim o.some [ ])
one_line_every (x ∷ xs) o =
    let first : x ≡ o.line = o.all x (Memᴰ.head refl) in
    let is_line_lem : x ≡ 0 → ⊥ = λ z. o.is_line (sym first ∙ z) in
    rw (ne_eqb x 0 is_line_lem)
    (all_are_every x xs (λ number m. o.all number (Memᴰ.tail m) ∙ sym first))

pub one_line_exact : OneLineExact
one_line_exact numbers = record { only = one_line_only numbers; every = one_line_every numbers }

-- where all are one line, that line alone is left
module _ (line : ℕ) (is_line_lem : line ≡ 0 → ⊥) where
  one_left : (others : List ℕ) → all_are line others ≡ true → rising_lines (line ∷ others) ≡ line ∷ []
  unfolding rising_lines with_line in_place all_are
  one_left [] e = rw (ne_eqb line 0 is_line_lem)
  one_left (x ∷ xs) e =
      let b = both (eqb x line) (all_are line xs) e in
      let ih = one_left xs b.1 in
      rw (eqb-true x line b.0, ih, ne_eqb line 0 is_line_lem, eq-eqb line line refl)

  none_unset : (others : List ℕ) → all_are line others ≡ true → some_unset (line ∷ others) ≡ false
  unfolding some_unset all_are
  none_unset [] e = rw (ne_eqb line 0 is_line_lem)
  none_unset (x ∷ xs) e =
      let b = both (eqb x line) (all_are line xs) e in
      let ih = none_unset xs b.1 in
      rw (eqb-true x line b.0, ih, ne_eqb line 0 is_line_lem)

every_set : (numbers : List ℕ) → some_unset numbers ≡ false → (number : ℕ) → Memᴰ number numbers → number ≡ 0 → ⊥
unfolding some_unset
every_set [] e number m = absurd (elim m [ ])
every_set (x ∷ xs) e number m = go (eqb x 0) refl e (every_set xs)
  where
    go : (b : Bool) → eqb x 0 ≡ b → cond b true (some_unset xs) ≡ false
        → (some_unset xs ≡ false → (n : ℕ) → Memᴰ n xs → n ≡ 0 → ⊥) → number ≡ 0 → ⊥
    go true q f ih = zero_not_one (cc)
    go false q f ih =
        ⊎_elim (λ e z. eqb-false x 0 q (sym e ∙ z)) (λ t. ih f number t) (Memᴰ.cases_cons m)

-- one line is left and every number is a line: then all are that one
module _ (numbers : List ℕ) (All-set : some_unset numbers ≡ false) where
  one_counted : (left : List ℕ) → rising_lines numbers ≡ left → length left ≡ 1 → OneLine numbers
  one_counted [] r e = absurd (omega arith)
  one_counted (x ∷ []) r e =
      let laws = lines_mean numbers in
      let own = laws.only x (rw r (Memᴰ.head refl)) in
      record {
        line = x;
        is_line = own.1;
        some = own.0;
        all = λ number m.
            Memᴰ.eq_of_singleton (rw r at (laws.every number m (every_set numbers All-set number m)));
      }
  one_counted (x ∷ y ∷ xs) r e = absurd (omega arith)

abbrev pub counted_one : List ℕ → Bool
counted_one numbers = not (some_unset numbers) && eqb (length (rising_lines numbers)) 1

one_line_counted : (numbers : List ℕ) → one_line numbers ≡ true → counted_one numbers ≡ true
unfolding one_line
one_line_counted [] e = zero_not_one (cc)
one_line_counted (x ∷ xs) e =
    let b = both (not (eqb x 0)) (all_are x xs) e in
    let is_line_lem = eqb-false x 0 (not-true (eqb x 0) b.0) in
    rw (none_unset x is_line_lem xs b.1, one_left x is_line_lem xs b.1)

pub counted_is_one : (numbers : List ℕ) → counted_one numbers ≡ one_line numbers
counted_is_one numbers = go (counted_one numbers) refl (one_line numbers) refl
  where
    go : (a : Bool) → counted_one numbers ≡ a → (b : Bool) → one_line numbers ≡ b → a ≡ b
    go true p true q = refl
    go false p false q = refl
    go false p true q = sym p ∙ one_line_counted numbers q
    go true p false q =
        let b = both (not (some_unset numbers)) (eqb (length (rising_lines numbers)) 1) p in
        let one = one_counted numbers (not-true (some_unset numbers) b.0) (rising_lines numbers) refl
        (eqb-true (length (rising_lines numbers)) 1 b.1) in
        sym (one_line_every numbers one) ∙ q
