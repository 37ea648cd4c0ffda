-- The laws of specs/RisingLines.antt.
-- Assumes nothing.
use mathlib.Core.Path.{◌≡◌, refl, sym, ◌∙◌}
use mathlib.Core.Bool.{Bool, true, false, cond}
use mathlib.Core.List.Memᴰ
use mathlib.Core.List.{List, [], ◌∷◌, Memᴰ}
use mathlib.Core.Logic.{◌⊎◌, inl, inr, ⊎_elim}
use Prim.Native.Nat.{ℕ, ◌+◌, ◌≤◌, ◌<◌}
use native.Mathlib.Omega.{arith}
use borrow.Author.Tests.{eqb-true, eqb-false, ltb-true, ltb-false}
use lib.Dec.{eqb, ltb}
use lib.ListN.{length}
use Rattle.endstate.specs.RisingLines.{lesser_of, greater_of, in_place, with_line, rising_lines}
use Rattle.endstate.specs.RisingLines.{RisesAbove, LinesMean, EveryLine}

-- a number put in its place, by how it compares with the first
module _ (P : List ℕ → Type 0) (x y : ℕ) (ys : List ℕ) (same : x ≡ y → P (y ∷ ys))
    (less : x < y → P (x ∷ in_place y ys)) (more : y < x → P (y ∷ in_place x ys)) where
  in_place_cases : P (in_place x (y ∷ ys))
  unfolding in_place
  in_place_cases = go (eqb x y) refl
    where
      ordered : (b : Bool) → ltb x y ≡ b → (x ≡ y → ⊥) → P (cond b x y ∷ in_place (cond b y x) ys)
      ordered true q n = less (ltb-true x y q)
      ordered false q n = more (omega (arith, ltb-false x y q))

      go : (b : Bool) → eqb x y ≡ b
          → P (cond b (y ∷ ys) (lesser_of x y ∷ in_place (greater_of x y) ys))
      go true q = same (eqb-true x y q)
      go false q = ordered (ltb x y) refl (eqb-false x y q)

-- one line more, by whether it is one
module _ (P : List ℕ → Type 0) (number : ℕ) (lines : List ℕ) (none : number ≡ 0 → P lines)
    (some : (number ≡ 0 → ⊥) → P (in_place number lines)) where
  pub with_line_cases : P (with_line number lines)
  unfolding with_line
  with_line_cases = go (eqb number 0) refl
    where
      go : (b : Bool) → eqb number 0 ≡ b → P (cond b lines (in_place number lines))
      go true q = none (eqb-true number 0 q)
      go false q = some (eqb-false number 0 q)

rises_lower : (low high : ℕ) (l : List ℕ) → low ≤ high → RisesAbove high l → RisesAbove low l
rises_lower low high [] h r = tt
rises_lower low high (x ∷ xs) h r = (omega (arith, r.0), r.1)

in_place_rises : (low x : ℕ) (l : List ℕ) → low < x → RisesAbove low l → RisesAbove low (in_place x l)
unfolding in_place
in_place_rises low x [] h r = (h, tt)
in_place_rises low x (y ∷ ys) h r =
    in_place_cases (RisesAbove low) x y ys (λ e. r)
    (λ l. (h, in_place_rises x y ys l (rises_lower x y ys (omega arith) r.1)))
    (λ g. (r.0, in_place_rises y x ys g r.1))

in_place_only : (z x : ℕ) (l : List ℕ) → Memᴰ z (in_place x l) → (z ≡ x) ⊎ Memᴰ z l
unfolding in_place
in_place_only z x [] = λ m. Memᴰ.cases_cons m
in_place_only z x (y ∷ ys) =
    in_place_cases (λ l. Memᴰ z l → (z ≡ x) ⊎ Memᴰ z (y ∷ ys)) x y ys (λ e m. inr m)
    (λ l m. ⊎_elim (λ e. inl e) (λ t. inr (other y (in_place_only z y ys t))) (Memᴰ.cases_cons m))
    (λ g m. ⊎_elim (λ e. inr (Memᴰ.head e)) (λ t. further (in_place_only z x ys t)) (Memᴰ.cases_cons m))
  where
    other : (w : ℕ) → (z ≡ w) ⊎ Memᴰ z ys → Memᴰ z (w ∷ ys)
    other w (inl e) = Memᴰ.head e
    other w (inr m) = Memᴰ.tail m

    further : (z ≡ x) ⊎ Memᴰ z ys → (z ≡ x) ⊎ Memᴰ z (y ∷ ys)
    further (inl e) = inl e
    further (inr m) = inr (Memᴰ.tail m)

in_place_every : (z x : ℕ) (l : List ℕ) → (z ≡ x) ⊎ Memᴰ z l → Memᴰ z (in_place x l)
unfolding in_place
in_place_every z x [] = ⊎_elim (λ e. Memᴰ.head e) (λ m. Memᴰ.tail m)
in_place_every z x (y ∷ ys) =
    in_place_cases (λ l. (z ≡ x) ⊎ Memᴰ z (y ∷ ys) → Memᴰ z l) x y ys (λ e m. there e m)
    (λ l m. ⊎_elim (λ e. Memᴰ.head e) (λ t. Memᴰ.tail (in_place_every z y ys (Memᴰ.cases_cons t))) m)
    (λ g m. split (in_place_every z x ys) m)
  where
    there : x ≡ y → (z ≡ x) ⊎ Memᴰ z (y ∷ ys) → Memᴰ z (y ∷ ys)
    there e (inl q) = Memᴰ.head (q ∙ e)
    there e (inr m) = m

    split : ((z ≡ x) ⊎ Memᴰ z ys → Memᴰ z (in_place x ys)) → (z ≡ x) ⊎ Memᴰ z (y ∷ ys)
        → Memᴰ z (y ∷ in_place x ys)
    split below (inl q) = Memᴰ.tail (below (inl q))
    split below (inr m) =
        ⊎_elim (λ e. Memᴰ.head e) (λ t. Memᴰ.tail (below (inr t))) (Memᴰ.cases_cons m)

in_place_few : (x : ℕ) (l : List ℕ) → length (in_place x l) ≤ length l + 1
unfolding in_place
in_place_few x [] = omega arith
in_place_few x (y ∷ ys) =
    in_place_cases (λ l. length l ≤ length (y ∷ ys) + 1) x y ys (λ e. omega arith)
    (λ l. omega (arith, in_place_few y ys)) (λ g. omega (arith, in_place_few x ys))

rises : (numbers : List ℕ) → RisesAbove 0 (rising_lines numbers)
unfolding rising_lines
rises [] = tt
rises (number ∷ numbers) =
    with_line_cases (RisesAbove 0) number (rising_lines numbers) (λ e. rises numbers)
    (λ n. in_place_rises 0 number (rising_lines numbers) (omega arith) (rises numbers))

put_only : (line : ℕ) (numbers : List ℕ) → Memᴰ line (rising_lines numbers)
    → Memᴰ line numbers × (line ≡ 0 → ⊥)
unfolding rising_lines
put_only line [] = λ m. absurd (elim m [ ])
put_only line (number ∷ numbers) =
    with_line_cases (λ l. Memᴰ line l → Memᴰ line (number ∷ numbers) × (line ≡ 0 → ⊥))
    number (rising_lines numbers) (λ e m. further (put_only line numbers m))
    (λ n m. ⊎_elim (λ e. (Memᴰ.head e, λ z. n (sym e ∙ z))) (λ t. further (put_only line numbers t))
    (in_place_only line number (rising_lines numbers) m))
  where
    further : Memᴰ line numbers × (line ≡ 0 → ⊥) → Memᴰ line (number ∷ numbers) × (line ≡ 0 → ⊥)
    further p = (Memᴰ.tail p.0, p.1)

put_every : (line : ℕ) (numbers : List ℕ) → Memᴰ line numbers → (line ≡ 0 → ⊥)
    → Memᴰ line (rising_lines numbers)
unfolding rising_lines
put_every line [] = λ m n. absurd (elim m [ ])
put_every line (number ∷ numbers) =
    with_line_cases (λ l. Memᴰ line (number ∷ numbers) → (line ≡ 0 → ⊥) → Memᴰ line l)
    number (rising_lines numbers)
    (λ z m n. ⊎_elim (λ e. absurd (n (e ∙ z))) (λ t. put_every line numbers t n) (Memᴰ.cases_cons m))
    (λ s m n. in_place_every line number (rising_lines numbers)
    (⊎_elim (λ e. inl e) (λ t. inr (put_every line numbers t n)) (Memᴰ.cases_cons m)))

few : (numbers : List ℕ) → length (rising_lines numbers) ≤ length numbers
unfolding rising_lines
few [] = omega arith
few (number ∷ numbers) =
    with_line_cases (λ l. length l ≤ length (number ∷ numbers)) number (rising_lines numbers)
    (λ e. omega (arith, few numbers))
    (λ n. omega (arith, few numbers, in_place_few number (rising_lines numbers)))

pub lines_mean : (numbers : List ℕ) → LinesMean numbers
lines_mean numbers =
    record {
      rise = rises numbers;
      only = λ line m. put_only line numbers m;
      every = λ line m n. put_every line numbers m n;
      few = few numbers;
    }

pub every_line : EveryLine
every_line = lines_mean
