-- The blocks that select a port, in any order of a list in which at most one does.
-- Assumes nothing.
use mathlib.Core.Path.{◌≡◌, refl, sym, ap, ◌∙◌}
use mathlib.Core.Bool.{Bool, true, false, cond}
use mathlib.Core.List.{List, [], ◌∷◌, Memᴰ}
use mathlib.Core.List.{Permᴰ}
use Prim.Native.Nat.{ℕ, ◌≤◌}
use native.Mathlib.Omega.{arith}
use lib.ListN.{length}
use Rattle.setup.specs.SetupBlocks.{Block, selects, selecting, SetupBlocks}

empty : (l : List Block) → length l ≤ 0 → l ≡ []
empty [] h = refl
empty (x ∷ xs) h = absurd (omega arith)

-- the blocks that are selected so far, and one more if it is
abbrev more : Bool → Block → List Block → List Block
more selected block blocks = cond selected (block ∷ blocks) blocks

more_same : (s : Bool) (x : Block) {a b : List Block} → (length a ≤ 1 → a ≡ b) → length (more s x a) ≤ 1
    → more s x a ≡ more s x b
more_same true x same h = ap (λ (l : List Block). x ∷ l) (same (omega arith))
more_same false x same h = same h

more_swapped : (s t : Bool) (x y : Block) (l : List Block) → length (more s x (more t y l)) ≤ 1
    → more s x (more t y l) ≡ more t y (more s x l)
more_swapped true true x y l h = absurd (omega arith)
more_swapped true false x y l h = refl
more_swapped false true x y l h = refl
more_swapped false false x y l h = refl

more_none : (s : Bool) (x y : Block) {l : List Block} → (length l ≤ 1 → l ≡ y ∷ []) → length (more s x l) ≤ 1
    → more s x l ≡ y ∷ []
more_none true x y only h = absurd (omega (arith, ap length (only (omega arith))))
more_none false x y only h = only h

module _ (port : ℕ) where
  -- the same blocks in the same order
  pub same_selecting : {a b : List Block} → Permᴰ a b → length (selecting port a) ≤ 1
      → selecting port a ≡ selecting port b
  unfolding selecting
  same_selecting Permᴰ.nil h = refl
  same_selecting (Permᴰ.cons {a = x} e d) h = rw (← e) (more_same (selects port x) x (same_selecting d) h)
  same_selecting (Permᴰ.swap {a = x} {b = y} {l = l} e f) h =
      rw (← e, ← f) (more_swapped (selects port x) (selects port y) x y (selecting port l) h)
  same_selecting (Permᴰ.trans d₁ d₂) h =
      let e = same_selecting d₁ h in
      e ∙ same_selecting d₂ (rw e at h)

  -- the one block that selects the port
  pub only_selecting : {block : Block} {blocks : List Block} → Memᴰ block blocks → selects port block ≡ true
      → length (selecting port blocks) ≤ 1 → selecting port blocks ≡ block ∷ []
  unfolding selecting
  only_selecting (Memᴰ.head {x = x} {xs = xs} e) s h =
      let t : selects port x ≡ true = ap (selects port) (sym e) ∙ s in
      let few : length (x ∷ selecting port xs) ≤ 1 = rw t at h in
      rw (t, e, empty (selecting port xs) (omega arith))
  only_selecting {block} (Memᴰ.tail {x = x} m) s h = more_none (selects port x) x block (only_selecting m s) h

  pub none_selecting : (blocks : List Block) → ((block : Block) → Memᴰ block blocks → selects port block ≡ false)
      → selecting port blocks ≡ []
  unfolding selecting
  none_selecting [] h = refl
  none_selecting (block ∷ blocks) h =
      rw (h block (Memᴰ.head refl)) (none_selecting blocks (λ other m. h other (Memᴰ.tail m)))

-- a member of the one list is a member of the other
mem_back : {block : Block} {a b : List Block} → Permᴰ a b → Memᴰ block b → Memᴰ block a
mem_back Permᴰ.nil m = elim m [ ]
mem_back (Permᴰ.cons e d) (Memᴰ.head q) = Memᴰ.head (q ∙ sym e)
mem_back (Permᴰ.cons e d) (Memᴰ.tail m) = Memᴰ.tail (mem_back d m)
mem_back (Permᴰ.swap e f) (Memᴰ.head q) = Memᴰ.tail (Memᴰ.head (q ∙ sym f))
mem_back (Permᴰ.swap e f) (Memᴰ.tail (Memᴰ.head q)) = Memᴰ.head (q ∙ sym e)
mem_back (Permᴰ.swap e f) (Memᴰ.tail (Memᴰ.tail m)) = Memᴰ.tail (Memᴰ.tail m)
mem_back (Permᴰ.trans d₁ d₂) m = mem_back d₁ (mem_back d₂ m)

-- the premises hold in every order
pub reordered : {a b : List Block} → Permᴰ a b → SetupBlocks a → SetupBlocks b
reordered d k =
    record {
      formed = λ block m. k.formed block (mem_back d m);
      disjoint = λ port hp. rw (same_selecting port d (k.disjoint port hp)) at (k.disjoint port hp);
    }
