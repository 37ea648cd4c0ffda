-- Laws of what holds of every element of a list.
-- Assumes nothing.
use mathlib.Core.List.{List, [], ◌∷◌, ◌++◌}
use Prim.Native.Nat.{ℕ, zero, suc, ◌+◌}
use native.Mathlib.Omega.{arith}
use lib.ListN.{take, drop}
use lib.Seq.{get_or-drop}
use Rattle.laws.specs.Elements.{AllBelow}

module _ (limit : ℕ) where
  -- it holds from a place on
  pub below_from : (n : ℕ) (l : List ℕ) → AllBelow limit l → AllBelow limit (drop n l)
  below_from n l below i = rw get_or-drop (below (n + i))

  -- and up to a place; past a list's end there is 0, so the limit is positive
  pub below_to : (n : ℕ) (l : List ℕ) → AllBelow limit l → AllBelow limit (take n l)
  below_to zero l below i = let h = below i in omega arith
  below_to (suc n) [] below i = below i
  below_to (suc n) (element ∷ l) below zero = below 0
  below_to (suc n) (element ∷ l) below (suc i) = below_to n l (λ k. below (suc k)) i

  -- and of one list after another
  pub below_append : (a b : List ℕ) → AllBelow limit a → AllBelow limit b → AllBelow limit (a ++ b)
  below_append [] b first second i = second i
  below_append (element ∷ a) b first second zero = first 0
  below_append (element ∷ a) b first second (suc i) = below_append a b (λ k. first (suc k)) second i
