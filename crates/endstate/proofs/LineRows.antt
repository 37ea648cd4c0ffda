-- The laws of specs/LineRows.antt: a row of lines, and one line more in it, place by place.
-- Assumes nothing.
use mathlib.Core.Path.{◌≡◌, refl, sym, ap, ◌∙◌}
use mathlib.Core.Bool.{Bool, true, false, cond}
use mathlib.Core.List.{List, [], ◌∷◌, ◌++◌, append-nil}
use Prim.Native.Nat.{ℕ, zero, suc, ◌+◌, ◌≤◌, ◌<◌}
use native.Mathlib.Numerals.{add-one}
use native.Mathlib.Omega.{arith}
use borrow.Author.Tests.{eq-eqb, ne_eqb, eqb-true, eqb-false, ltb-true}
use lib.Dec.{eqb, ltb}
use lib.ListN.{length, get_or, set, take, drop, replicate, length-set, length-replicate}
use lib.ListN.{drop_of_length-le}
use lib.Seq.{take_all, take-suc-set, drop-set-lt, drop-cons, append_snoc, set_split}
use Rattle.endstate.specs.declared.lines.Lines.{Lines}
use Rattle.endstate.specs.RisingLines.{lesser_of, greater_of, in_place, with_line, rising_lines, RisesAbove}
use Rattle.endstate.specs.LineRows.{before_zero, lines_of, lines_row, placed_at, carried_on, RowHolds}
use Rattle.endstate.proofs.RisingLines.{lines_mean}

-- a list in a row of n places, then zeros
unfoldable padded : ℕ → List ℕ → List ℕ
padded n l = take n (l ++ replicate n 0)

-- more zeros behind it change nothing
pad_take : (n m : ℕ) (l : List ℕ) → n ≤ m → take n (l ++ replicate m 0) ≡ padded n l
unfolding padded
pad_take zero m l h = refl
pad_take (suc n) zero l h = absurd (omega arith)
pad_take (suc n) (suc m) [] h = ap (λ (r : List ℕ). 0 ∷ r) (pad_take n m [] (omega arith))
pad_take (suc n) (suc m) (x ∷ l) h =
    ap (λ (r : List ℕ). x ∷ r) (pad_take n (suc m) l (omega arith) ∙ sym (pad_take n (suc n) l (omega arith)))

pad_cons : (n x : ℕ) (l : List ℕ) → padded (suc n) (x ∷ l) ≡ x ∷ padded n l
unfolding padded
pad_cons n x l = ap (λ (r : List ℕ). x ∷ r) (pad_take n (suc n) l (omega arith))

pad_zero : (l : List ℕ) → padded 0 l ≡ []
unfolding padded
pad_zero l = refl

pad_none : (n : ℕ) → padded n [] ≡ replicate n 0
unfolding padded
pad_none n = take_all n (replicate n 0) (omega (arith, length-replicate {A = ℕ} n 0))

-- one line more, at the first place
module _ (c f : ℕ) (l : List ℕ) where
  with_more : with_line c (f ∷ l) ≡ placed_at c f ∷ with_line (carried_on c f) l
  unfolding with_line in_place
  with_more = go (eqb c 0) refl
    where
      lesser_same : (b : Bool) → c ≡ f → cond b c f ≡ f
      lesser_same true e = e
      lesser_same false e = refl

      greater_some : (b : Bool) → ltb c f ≡ b → (c ≡ 0 → ⊥) → cond b f c ≡ 0 → ⊥
      greater_some true q n e = omega (arith, ltb-true c f q)
      greater_some false q n e = n e

      other : (b : Bool) → eqb c f ≡ b → (c ≡ 0 → ⊥)
          → cond b (f ∷ l) (lesser_of c f ∷ in_place (greater_of c f) l)
          ≡ lesser_of c f ∷ with_line (cond b 0 (greater_of c f)) l
      other true q n = rw (lesser_same (ltb c f) (eqb-true c f q))
      other false q n = rw (ne_eqb (greater_of c f) 0 (greater_some (ltb c f) refl n))

      go : (b : Bool) → eqb c 0 ≡ b
          → cond b (f ∷ l) (in_place c (f ∷ l))
          ≡ cond b f (lesser_of c f) ∷ with_line (cond b 0 (cond (eqb c f) 0 (greater_of c f))) l
      go true q = refl
      go false q = other (eqb c f) refl (eqb-false c 0 q)

-- a row with one line more: at the first zero the carried number ends it
unfoldable pub row_with : ℕ → List ℕ → List ℕ
row_with c [] = []
row_with c (f ∷ l) = cond (eqb f 0) (c ∷ replicate (length l) 0) (placed_at c f ∷ row_with (carried_on c f) l)

row_is : (c : ℕ) (l : List ℕ) → row_with c l ≡ padded (length l) (with_line c (before_zero l))
unfolding row_with before_zero with_line in_place
row_is c [] = sym (pad_zero (with_line c []))
row_is c (f ∷ l) = go (eqb f 0) (row_is (carried_on c f) l)
  where
    alone : (b : Bool) → eqb c 0 ≡ b → c ∷ replicate (length l) 0 ≡ padded (suc (length l)) (cond b [] (c ∷ []))
    alone true q = rw (eqb-true c 0 q, pad_none (suc (length l)))
    alone false q = rw (pad_cons (length l) c [], pad_none (length l))

    go : (b : Bool)
        → row_with (carried_on c f) l ≡ padded (length l) (with_line (carried_on c f) (before_zero l))
        → cond b (c ∷ replicate (length l) 0) (placed_at c f ∷ row_with (carried_on c f) l)
        ≡ padded (suc (length l)) (with_line c (cond b [] (f ∷ before_zero l)))
    go true ih = alone (eqb c 0) refl
    go false ih =
        rw (
          with_more c f (before_zero l),
          pad_cons (length l) (placed_at c f) (with_line (carried_on c f) (before_zero l)),
          ih,
        )

-- the first zeros of a row are no lines, where its lines rise
row_lines : (low n : ℕ) (l : List ℕ) → RisesAbove low l → before_zero (padded n l) ≡ take n l
unfolding before_zero
row_lines low zero l r = rw (pad_zero l)
row_lines low (suc n) [] r = rw (pad_none (suc n))
row_lines low (suc n) (x ∷ l) r =
    let some : x ≡ 0 → ⊥ = λ e. omega (arith, r.0) in
    rw (pad_cons n x l, ne_eqb x 0 some, row_lines x n l r.1)

-- what has no place in the row has no place in the next one
row_take : (n c : ℕ) (l : List ℕ) → padded n (with_line c (take n l)) ≡ padded n (with_line c l)
row_take zero c l = pad_zero (with_line c []) ∙ sym (pad_zero (with_line c l))
row_take (suc n) c [] = refl
row_take (suc n) c (f ∷ l) =
    rw (
      with_more c f (take n l),
      with_more c f l,
      pad_cons n (placed_at c f) (with_line (carried_on c f) (take n l)),
      pad_cons n (placed_at c f) (with_line (carried_on c f) l),
      row_take n (carried_on c f) l,
    )

-- the row of the source
row_of : (l : List ℕ) → lines_row l ≡ record { numbers = padded 12 l }
unfolding lines_row padded
row_of l = refl

module _ (numbers : List ℕ) where
  pub row_first : lines_of (lines_row (rising_lines numbers)) ≡ take 12 (rising_lines numbers)
  row_first = rw (row_of (rising_lines numbers)) (row_lines 0 12 (rising_lines numbers) (lines_mean numbers).rise)

  -- one line more is one number more
  pub row_more : (number : ℕ)
      → lines_row (with_line number (lines_of (lines_row (rising_lines numbers))))
      ≡ lines_row (rising_lines (number ∷ numbers))
  unfolding rising_lines
  row_more number =
      rw (
        row_first,
        row_of (with_line number (take 12 (rising_lines numbers))),
        row_of (with_line number (rising_lines numbers)),
        row_take 12 number (rising_lines numbers),
      )

  pub line_more : (number : ℕ) {put : ℕ} {before after : Lines} → before ≡ lines_row (rising_lines numbers)
      → put ≡ number → after ≡ lines_row (with_line put (lines_of before))
      → after ≡ lines_row (rising_lines (number ∷ numbers))
  line_more number e p q = q ∙ rw (p, e, row_more number)

pub row_holds : RowHolds
row_holds numbers h =
    let few : length (rising_lines numbers) ≤ 12 = omega (arith, (lines_mean numbers).few) in
    row_first numbers ∙ take_all 12 (rising_lines numbers) few

-- A row that is made place by place: the first i are settled, the others are zeros, and a number is carried on.
pub record Settled (given row : List ℕ) (i carried : ℕ) (whole : List ℕ) : Type 0 where
  pub within : i ≤ 12
  pub places : length row ≡ 12
  pub zeros : drop i row ≡ replicate (length (drop i given)) 0
  pub so_far : take i row ++ row_with carried (drop i given) ≡ whole

pub settled_none : (given : List ℕ) (number : ℕ) → length given ≡ 12
    → Settled given (replicate 12 0) 0 number (row_with number given)
settled_none given number size = record { within = omega arith; places = refl; zeros = rw size; so_far = refl }

module _ {given row whole : List ℕ} {i carried : ℕ} (size : length given ≡ 12)
    (s : Settled given row i carried whole) where
  module _ (there : i < 12) where
    rest_zeros : drop (suc i) row ≡ replicate (length (drop (suc i) given)) 0
    rest_zeros =
        let all : get_or row i 0 ∷ drop (suc i) row ≡ 0 ∷ replicate (length (drop (suc i) given)) 0 =
        rw (← drop-cons row i 0 (omega (arith, s.places)), s.zeros, drop-cons given i 0 (omega arith)) in
        cc

    pub settled_stop : get_or given i 0 ≡ 0 → set row i carried ≡ whole
    unfolding row_with
    settled_stop e =
        let last = s.so_far in
        rw (set_split row i carried (omega (arith, s.places)), rest_zeros)
        (rw (drop-cons given i 0 (omega arith), eq-eqb (get_or given i 0) 0 e) at last)

    pub settled_more : (get_or given i 0 ≡ 0 → ⊥)
        → Settled given (set row i (placed_at carried (get_or given i 0))) (i + 1)
        (carried_on carried (get_or given i 0)) whole
    unfolding row_with
    settled_more n =
        let at = get_or given i 0 in
        let x = placed_at carried at in
        let room : i < length row = omega (arith, s.places) in
        let last = s.so_far in
        record {
          within = omega arith;
          places = length-set row i x ∙ s.places;
          zeros = rw (add-one i, drop-set-lt (suc i) row i x (omega arith), rest_zeros);
          so_far = rw (add-one i, take-suc-set row i x room, append_snoc (take i row))
              (rw (drop-cons given i 0 (omega arith), ne_eqb at 0 n) at last);
        }

  pub settled_all : i ≡ 12 → row ≡ whole
  unfolding row_with
  settled_all e =
      let all : length row ≤ 12 = omega (arith, s.places) in
      let none : length given ≤ 12 = omega arith in
      let last = s.so_far in
      rw (e, drop_of_length-le given none, take_all 12 row all, append-nil) at last

-- and so the lines with one more
pub one_more : (lines : Lines) (number : ℕ) {row : List ℕ} → length lines.numbers ≡ 12
    → row ≡ row_with number lines.numbers
    → ◌≡◌ {A = Lines} (record { numbers = row }) (lines_row (with_line number (lines_of lines)))
one_more lines number size e =
    let whole : row_with number lines.numbers ≡ padded 12 (with_line number (lines_of lines)) =
    rw size at (row_is number lines.numbers) in
    rw (row_of (with_line number (lines_of lines)), e, whole)
