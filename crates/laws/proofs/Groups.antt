-- Laws of a list cut into groups, over the size of a group and what it is turned into: their length, one more group,
-- and one stored after others.
-- Assumes nothing.
use mathlib.Core.Path.{◌≡◌, refl, sym, ap, ap₂, ◌∙◌}
use mathlib.Core.List.{List, [], ◌∷◌, ◌++◌, append_assoc, append-nil}
use Prim.Native.Nat.{ℕ, zero, suc, ◌+◌, ◌*◌, ◌≤◌, ◌<◌}
use native.Mathlib.Nat.{zero-mul, mul_comm, mul-le-mul_right}
use native.Mathlib.Numerals.{add-one}
use native.Mathlib.Omega.{arith}
use lib.ListN.{length, take, drop, length-append, length-drop, take-append-drop}
use lib.Seq.{length-take-le, drop-drop, take_at, drop_at}
use Rattle.laws.specs.Buffers.{written}
use Rattle.laws.specs.Elements.{AllBelow}
use Rattle.laws.specs.Groups.{groups}
use Rattle.laws.proofs.Buffers.{written_more}
use Rattle.laws.proofs.Elements.{below_from, below_to, below_append}

-- one more group after n
next_group : (size : ℕ) (f : List ℕ → List ℕ) (n : ℕ) (l : List ℕ)
    → groups size f (suc n) l ≡ groups size f n l ++ f (take size (drop (n * size) l))
unfolding groups
next_group size f zero l = append-nil (f (take size l)) ∙ ap (λ (m : ℕ). f (take size (drop m l))) (sym (zero-mul size))
next_group size f (suc n) l =
    let first = f (take size l) in
    let place : size + n * size ≡ suc n * size = omega arith in
    ap (λ (r : List ℕ). first ++ r)
    (next_group size f n (drop size l)
    ∙ ap (λ (r : List ℕ). groups size f n (drop size l) ++ f (take size r)) (drop-drop (n * size) size l ∙ ap (λ (m : ℕ). drop m l) place))
    ∙ sym (append_assoc first (groups size f n (drop size l)) (f (take size (drop (suc n * size) l))))

-- Every group of elements below a limit is turned into elements below another, and so are all.
module _ (size : ℕ) (f : List ℕ → List ℕ) (limit bound : ℕ) (positive : 0 < bound)
    (each : (g : List ℕ) → AllBelow limit g → AllBelow bound (f g)) where
  pub below_groups : (n : ℕ) (l : List ℕ) → AllBelow limit l → AllBelow bound (groups size f n l)
  unfolding groups
  below_groups zero l below i = positive
  below_groups (suc n) l below i =
      below_append bound (f (take size l)) (groups size f n (drop size l)) (each (take size l) (below_to limit size l below))
      (below_groups n (drop size l) (below_from limit size l below)) i

-- every group of `size` elements is turned into one of `out`
module _ (size out : ℕ) (f : List ℕ → List ℕ) (turned : (g : List ℕ) → length g ≡ size → length (f g) ≡ out) where
  pub length-groups : (n : ℕ) (l : List ℕ) → n * size ≤ length l → length (groups size f n l) ≡ n * out
  unfolding groups
  length-groups zero l h = omega arith
  length-groups (suc n) l h =
      let d = length-drop size l in
      length-append (f (take size l)) (groups size f n (drop size l))
      ∙ ap₂ ◌+◌ (turned (take size l) (length-take-le size l (omega arith))) (length-groups n (drop size l) (omega arith))
      ∙ omega arith

  -- a buffer that holds g groups, and one more group stored after them
  pub group_stored : (l d b e : List ℕ) (g count : ℕ) → g < count → count * size ≤ length l → count * out ≤ length d
      → b ≡ written d 0 (groups size f g l) → e ≡ written b (out * g) (f (take size (drop (size * g) l))) → e ≡ written d 0 (groups size f (g + 1) l)
  group_stored l d b e g count h whole room eb ee =
      let done = groups size f g l in
      let part = take size (drop (size * g) l) in
      let group = f part in
      let elements_fit : suc g * size ≤ count * size = mul-le-mul_right size h in
      let turned_fit : suc g * out ≤ count * out = mul-le-mul_right out h in
      let ld = length-groups g l (omega arith) in
      let at : size * g ≡ g * size = mul_comm size g in
      let lr : length part ≡ size = length-take-le size (drop (size * g) l) (let k = length-drop (size * g) l in omega arith) in
      let lg : length group ≡ out = turned part lr in
      let place : out * g ≡ 0 + length done = omega arith in
      let next : groups size f (g + 1) l ≡ done ++ group =
      ap (λ (m : ℕ). groups size f m l) (add-one g)
      ∙ next_group size f g l
      ∙ ap (λ (r : List ℕ). done ++ f r) (ap (λ (m : ℕ). take size (drop m l)) (sym at)) in
      ee
      ∙ ap₂ (λ (r : List ℕ) (m : ℕ). written r m group) eb place
      ∙ written_more d 0 done (omega arith) group (omega arith)
      ∙ ap (written d 0) (sym next)

  -- What is turned back group by group is turned back as a whole, where the elements are below a limit.
  module _ (back : List ℕ → List ℕ) (limit : ℕ) (undone : (g : List ℕ) → length g ≡ size → AllBelow limit g → back (f g) ≡ g) where
    pub groups_undone : (n : ℕ) (l : List ℕ) → length l ≡ n * size → AllBelow limit l → groups out back n (groups size f n l) ≡ l
    unfolding groups
    groups_undone zero [] h below = refl
    groups_undone zero (element ∷ l) h below = absurd (omega arith)
    groups_undone (suc n) l h below =
        let first = f (take size l) in
        let rest = groups size f n (drop size l) in
        let group : length (take size l) ≡ size = length-take-le size l (omega arith) in
        let lf = turned (take size l) group in
        let others : length (drop size l) ≡ n * size = length-drop size l ∙ omega arith in
        ap₂ ◌++◌ (ap back (take_at first rest out lf) ∙ undone (take size l) group (below_to limit size l below))
        (ap (groups out back n) (drop_at first rest out lf) ∙ groups_undone n (drop size l) others (below_from limit size l below))
        ∙ take-append-drop size l
