-- The writes that are followed, of lists one after another.
-- Assumes nothing.
use Rattle.std.proofs.Common.{◌≡◌, Bool, true, false, cond, List, [], ◌∷◌, ◌++◌, refl, ap, ◌∙◌}
use Rattle.origins.specs.declared.NumberedWrite.{NumberedWrite}
use Rattle.ordering.specs.Kinds.{kind, is_followed, followed}
use Rattle.ordering.specs.Layouts.{joined_blocks, followed_each}

pub followed_kept : (w : NumberedWrite) (ws : List NumberedWrite) → is_followed (kind w) ≡ true
    → followed (w ∷ ws) ≡ w ∷ followed ws
unfolding followed
followed_kept w ws e = rw e

followed_append : (a b : List NumberedWrite) → followed (a ++ b) ≡ followed a ++ followed b
unfolding followed
followed_append [] b = refl
followed_append (w ∷ a) b = go (is_followed (kind w)) (followed_append a b)
  where
    go : (c : Bool) → followed (a ++ b) ≡ followed a ++ followed b
        → cond c (w ∷ followed (a ++ b)) (followed (a ++ b)) ≡ cond c (w ∷ followed a) (followed a) ++ followed b
    go true e = ap (λ (l : List NumberedWrite). w ∷ l) e
    go false e = e

followed_joined : (blocks : List (List NumberedWrite))
    → followed (joined_blocks blocks) ≡ joined_blocks (followed_each blocks)
unfolding followed
followed_joined [] = refl
followed_joined (ws ∷ blocks) =
    followed_append ws (joined_blocks blocks) ∙ ap (◌++◌ (followed ws)) (followed_joined blocks)

-- of the three parts of a script
pub followed_parts : (start : List NumberedWrite) (blocks : List (List NumberedWrite)) (end : List NumberedWrite)
    → followed (start ++ (joined_blocks blocks ++ end))
    ≡ followed start ++ (joined_blocks (followed_each blocks) ++ followed end)
followed_parts start blocks end =
    rw (
      followed_append start (joined_blocks blocks ++ end),
      followed_append (joined_blocks blocks) end,
      followed_joined blocks,
    )
