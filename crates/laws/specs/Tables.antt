-- A list by its rule: f at 0, 1, 2 and so on.
-- Assumes nothing.
use Rattle.std.specs.Prelude.{List, [], ◌∷◌, ℕ, zero, suc}

-- f i, f (i + 1) and so on, n elements
unfoldable pub tabulate_from : ℕ → (ℕ → ℕ) → ℕ → List ℕ
tabulate_from i f zero = []
tabulate_from i f (suc n) = f i ∷ tabulate_from (suc i) f n

-- f 0 to f (n - 1)
unfoldable pub tabulate : (ℕ → ℕ) → ℕ → List ℕ
tabulate f n = tabulate_from 0 f n
