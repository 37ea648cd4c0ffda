-- Laws of a list given by its rule, and a rule that a computed test shows at every number below a bound.
-- Assumes nothing.
use mathlib.Core.Path.{◌≡◌, refl, sym, ap, ◌∙◌}
use mathlib.Core.Bool.{Bool, true, false, ◌&&◌}
use mathlib.Core.List.{List}
use Prim.Native.Nat.{ℕ, zero, suc, ◌+◌, ◌≤◌, ◌<◌}
use native.Mathlib.Nat.{add-zero, zero-add, add-suc, suc-add, le_of_suc-le-suc, eq-or-lt_of_le}
use native.Mathlib.Numerals.{add-one}
use mathlib.Core.Logic.{◌⊎◌, inl, inr}
use native.Mathlib.Omega.{arith}
use lib.Dec.{T}
use lib.ListN.{length, get_or, set, length-set}
use lib.Seq.{ext_get_or, get_or-set_same, get_or-set_other}
use Rattle.laws.specs.Tables.{tabulate_from, tabulate}

module _ (f : ℕ → ℕ) where
  length_from : (i n : ℕ) → length (tabulate_from i f n) ≡ n
  unfolding tabulate_from
  length_from i zero = refl
  length_from i (suc n) = ap suc (length_from (suc i) n)

  at_from : (i n k : ℕ) → k < n → get_or (tabulate_from i f n) k 0 ≡ f (i + k)
  unfolding tabulate_from
  at_from i zero k h = absurd (omega arith)
  at_from i (suc n) zero h = ap f (sym (add-zero i))
  at_from i (suc n) (suc k) h = at_from (suc i) n k (le_of_suc-le-suc h) ∙ ap f (suc-add i k ∙ sym (add-suc i k))

  pub length-tabulate : (n : ℕ) → length (tabulate f n) ≡ n
  unfolding tabulate
  length-tabulate n = length_from 0 n

  pub tabulate-at : (n k : ℕ) → k < n → get_or (tabulate f n) k 0 ≡ f k
  unfolding tabulate
  tabulate-at n k h = at_from 0 n k h ∙ ap f (zero-add k)

  -- an array of n numbers of which the first i are filled by the rule
  pub record Filled (n i : ℕ) (l : List ℕ) : Type 0 where
    pub bound : i ≤ n
    pub count : length l ≡ n
    pub entry : (k : ℕ) → k < i → get_or l k 0 ≡ f k

  pub filled_none : (n : ℕ) (l : List ℕ) → length l ≡ n → Filled n 0 l
  filled_none n l e = record { bound = omega arith; count = e; entry = λ k (h : k < 0). absurd (omega arith) }

  pub filled_more : (n i x : ℕ) (l : List ℕ) → i < n → x ≡ f i → Filled n i l → Filled n (i + 1) (set l i x)
  filled_more n i x l h e g =
      record {
        bound = omega arith;
        count = length-set l i x ∙ g.count;
        entry = λ k (b : k < i + 1). at_entry k (eq-or-lt_of_le (le_of_suc-le-suc (rw add-one at b)));
      }
    where
      at_entry : (k : ℕ) → (k ≡ i) ⊎ (k < i) → get_or (set l i x) k 0 ≡ f k
      at_entry k (inl q) = rw q (get_or-set_same l i x 0 (omega (arith, g.count)) ∙ e)
      at_entry k (inr b) = get_or-set_other l i k x 0 (λ (q : k ≡ i). omega arith) ∙ g.entry k b

  pub filled_all : (n i : ℕ) (l : List ℕ) → n ≤ i → Filled n i l → l ≡ tabulate f n
  filled_all n i l h g =
      ext_get_or 0 l (tabulate f n) (g.count ∙ sym (length-tabulate n))
      (λ k (b : k < length l).
      let m : k < n = omega (arith, g.count) in
      g.entry k (omega arith) ∙ sym (tabulate-at n k m))

-- the test passes at every number below n
unfoldable pub all_below : (ℕ → Bool) → ℕ → Bool
all_below test zero = true
all_below test (suc n) = all_below test n && test n

-- a test that was computed once, at each number
pub below_at : (test : ℕ → Bool) (n : ℕ) → T (all_below test n) → (k : ℕ) → k < n → T (test k)
unfolding all_below
below_at test zero t k h = absurd (omega arith)
below_at test (suc n) t k h = go (eq-or-lt_of_le (le_of_suc-le-suc h)) (below_at test n (left (all_below test n) (test n) t) k)
  where
    left : (a b : Bool) → T (a && b) → T a
    left true b u = tt
    left false b u = u

    right : (a b : Bool) → T (a && b) → T b
    right true b u = u
    right false b u = absurd u

    go : (k ≡ n) ⊎ (k < n) → (k < n → T (test k)) → T (test k)
    go (inl e) ih = rw e (right (all_below test n) (test n) t)
    go (inr l) ih = ih l

-- the same as an equation
pub true_below : (test : ℕ → Bool) (n : ℕ) → T (all_below test n) → (k : ℕ) → k < n → test k ≡ true
true_below test n t k h = go (test k) (below_at test n t k h)
  where
    go : (b : Bool) → T b → b ≡ true
    go true u = refl
    go false u = absurd u
