-- Laws of a loop that turns a list group by group and stores each at the start of a slice, over the size of a group
-- and what it is turned into.
-- Assumes nothing.
use mathlib.Core.Path.{◌≡◌, refl, sym, ap, ◌∙◌}
use mathlib.Core.List.{List}
use Prim.Native.Nat.{ℕ, ◌+◌, ◌*◌, ◌≤◌, ◌<◌}
use native.Mathlib.Omega.{arith}
use lib.ListN.{length, take, drop}
use Rattle.laws.specs.Buffers.{written}
use Rattle.laws.specs.Groups.{groups}
use Rattle.laws.proofs.Buffers.{written_nil}
use Rattle.laws.proofs.Groups.{group_stored}

-- after `g` of `count` turns the slice `before` has become `after`: it holds the first g groups
pub record Stored (size : ℕ) (f : List ℕ → List ℕ) (l before : List ℕ) (count g : ℕ) (after : List ℕ) : Type 0 where
  pub bound : g ≤ count
  pub same : length after ≡ length before
  pub content : after ≡ written before 0 (groups size f g l)

-- before the first turn
pub stored_none : (size : ℕ) (f : List ℕ → List ℕ) (l d : List ℕ) (count : ℕ) → Stored size f l d count 0 d
unfolding groups
stored_none size f l d count = record { bound = omega arith; same = refl; content = sym (written_nil d 0) }

-- one turn: every group of `size` elements is turned into one of `out`, and the next is stored after those that stand
-- there
pub stored_more : {size out : ℕ} {f : List ℕ → List ℕ} {l d b e : List ℕ} {count g : ℕ} → ((group : List ℕ) → length group ≡ size → length (f group) ≡ out)
    → count * size ≤ length l → count * out ≤ length d → g < count → Stored size f l d count g b
    → length e ≡ length b → e ≡ written b (out * g) (f (take size (drop (size * g) l))) → Stored size f l d count (g + 1) e
stored_more {size} {out} {f} {l} {d} {b} {e} {count} {g} turned whole room h so kept more =
    record {
      bound = omega arith;
      same = kept ∙ so.same;
      content = group_stored size out f turned l d b e g count h whole room so.content more;
    }

-- after the last
pub stored_all : {size : ℕ} {f : List ℕ → List ℕ} {l d b : List ℕ} {count g : ℕ} → Stored size f l d count g b → count ≤ g → b ≡ written d 0 (groups size f count l)
stored_all {size} {f} {l} {d} {b} {count} {g} so h =
    let done : g ≡ count = omega arith in
    so.content ∙ ap (λ (n : ℕ). written d 0 (groups size f n l)) done
