-- A list cut into groups of one size, each turned into another list.
-- Assumes nothing.
use Rattle.std.specs.Prelude.{List, [], ◌++◌, ℕ, zero, suc, take, drop}

-- the first n groups of so many elements, each turned by f, one after the other
unfoldable pub groups : ℕ → (List ℕ → List ℕ) → ℕ → List ℕ → List ℕ
groups size f zero l = []
groups size f (suc n) l = f (take size l) ++ groups size f n (drop size l)
