-- The bytes of a window that move to its start.
-- Assumes nothing.
use mathlib.Core.Path.{◌≡◌, sym, ap, ◌∙◌}
use mathlib.Core.List.{List}
use Prim.Native.Nat.{ℕ, ◌-◌, ◌≤◌}
use native.Mathlib.Omega.{arith}
use lib.ListN.{length, take, drop, length-drop}
use lib.Seq.{paste, length-take-le}
use Rattle.std.proofs.BufReadLemmas.{drop-take_min}
use Rattle.laws.specs.Buffers.{written}

-- `copy_within` to the start writes the bytes there
pub moved : (d bytes : List ℕ) (from count : ℕ) → bytes ≡ take count (drop from d) → length bytes ≡ count
    → paste d 0 (drop from d) count ≡ written d 0 bytes
unfolding written
moved d bytes from count e n = rw (sym e, n)

-- the same, for the bytes between two places
pub moved_between : (d : List ℕ) (from to : ℕ) → from ≤ to → to ≤ length d
    → paste d 0 (drop from d) (to - from) ≡ written d 0 (drop from (take to d))
moved_between d from to ordered inside =
    let size : length (drop from (take to d)) ≡ to - from =
    length-drop from (take to d) ∙ ap (λ (n : ℕ). n - from) (length-take-le to d inside) in
    moved d (drop from (take to d)) from (to - from) (drop-take_min d to from from (omega arith)) size
