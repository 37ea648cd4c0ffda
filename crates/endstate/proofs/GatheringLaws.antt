-- The laws of specs/Gathering.antt: what is kept of some origins, and what is found by it.
-- Assumes nothing.
use mathlib.Core.Path.{◌≡◌, refl, sym, ◌∙◌}
use mathlib.Core.Bool.{Bool, true, false, cond}
use mathlib.Core.List.{List, [], ◌∷◌}
use Prim.Native.Nat.{ℕ, suc}
use native.Mathlib.Omega.{arith}
use borrow.Author.Tests.{eq-eqb, ne_eqb}
use lib.Dec.{eqb}
use lib.ListN.{length, get_or, take}
use Rattle.ports.specs.PortMasks.{several_ports}
use Rattle.endstate.specs.declared.gathering.Gathered.{Gathered}
use Rattle.endstate.specs.declared.lines.Lines.{Lines}
use Rattle.endstate.specs.RisingLines.{rising_lines, one_line}
use Rattle.endstate.specs.LineRows.{before_zero, lines_row}
use Rattle.endstate.specs.Findings.{shared_by, clash_of}
use Rattle.endstate.specs.Gathering.{some_unset, gathered_of, with_origin, gathered_one}
use Rattle.endstate.specs.Gathering.{clash_by}
use Rattle.endstate.proofs.LineRows.{row_first, row_more}
use Rattle.endstate.proofs.OneLine.{counted_is_one}

kept_lines : (numbers : List ℕ) → (gathered_of numbers).lines ≡ lines_row (rising_lines numbers)
unfolding gathered_of
kept_lines numbers = refl

pub gathered_none : {lines : Lines} → lines ≡ lines_row []
    → ◌≡◌ {A = Gathered} (record { lines = lines; unset = false }) (gathered_of [])
unfolding gathered_of rising_lines some_unset
gathered_none e = rw e

-- one number more
module _ (numbers : List ℕ) (number : ℕ) {put : ℕ} {before after : Gathered} where
  pub gathered_more : before ≡ gathered_of numbers → put ≡ number → after ≡ with_origin put before
      → after ≡ gathered_of (number ∷ numbers)
  unfolding with_origin gathered_of some_unset
  gathered_more e p q = q ∙ rw (p, e, row_more numbers number)

-- a list and its first twelve have one element at the same time
many : (n : ℕ) → eqb (suc (suc n)) 1 ≡ false
many n = ne_eqb (suc (suc n)) 1 (λ e. omega arith)

one_of_twelve : (l : List ℕ) → eqb (length (take 12 l)) 1 ≡ eqb (length l) 1
one_of_twelve [] = refl
one_of_twelve (x ∷ []) = refl
one_of_twelve (x ∷ y ∷ l) = many (length (take 10 l)) ∙ sym (many (length l))

gathered_one_lem : (numbers : List ℕ) → gathered_one (gathered_of numbers) ≡ one_line numbers
unfolding gathered_of
gathered_one_lem numbers = rw (row_first numbers, one_of_twelve (rising_lines numbers)) (counted_is_one numbers)

-- what is found by what is kept of the origins is what is found by them
pub clash_by_lem : (ports : ℕ) (numbers : List ℕ) (asked : Bool)
    → clash_by ports (gathered_of numbers) asked ≡ clash_of (shared_by ports numbers asked)
unfolding clash_by shared_by
clash_by_lem ports numbers asked = go (several_ports ports) refl
  where
    go : (b : Bool) → several_ports ports ≡ b
        → clash_by ports (gathered_of numbers) asked ≡ clash_of (shared_by ports numbers asked)
    go true e = rw (e, gathered_one_lem numbers, kept_lines numbers)
    go false e = rw e

-- there is one line where the first place has one and the second has none
one_place : (l : List ℕ) → eqb (length (before_zero l)) 1 ≡ cond (eqb (get_or l 0 0) 0) false (eqb (get_or l 1 0) 0)
unfolding before_zero
one_place [] = refl
one_place (x ∷ []) = go (eqb x 0)
  where
    go : (b : Bool) → eqb (length (cond {A = List ℕ} b [] (x ∷ []))) 1 ≡ cond b false true
    go true = refl
    go false = refl
one_place (x ∷ y ∷ l) = go (eqb x 0) (eqb y 0)
  where
    go : (b d : Bool)
        → eqb (length (cond {A = List ℕ} b [] (x ∷ cond {A = List ℕ} d [] (y ∷ before_zero l)))) 1 ≡ cond b false d
    go true d = refl
    go false true = refl
    go false false = many (length (before_zero l))

module _ (gathered : Gathered) (All-set : gathered.unset ≡ false) where
  abbrev place : ℕ → ℕ
  place i = get_or gathered.lines.numbers i 0

  pub no_line_lem : place 0 ≡ 0 → false ≡ gathered_one gathered
  no_line_lem e = rw (All-set, one_place gathered.lines.numbers, eq-eqb (place 0) 0 e)

  pub first_line : (place 0 ≡ 0 → ⊥) → eqb (place 1) 0 ≡ gathered_one gathered
  first_line n = rw (All-set, one_place gathered.lines.numbers, ne_eqb (place 0) 0 n)
