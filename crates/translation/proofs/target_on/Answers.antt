-- `translation::target_on` meets its contract. The loop's invariant: the search from target k on finds what the whole
-- search does.
use mathlib.Core.Path.{◌≡◌, sym, ◌∙◌}
use mathlib.Core.Bool.{cond}
use mathlib.Core.List.{List}
use Prim.Native.Nat.{ℕ, suc, ◌+◌, ◌-◌, ◌<◌}
use native.Mathlib.Numerals.{add-one}
use Rattle.registers.specs.RegisterMap.{TARGET_ID_0, TARGET_ALIAS_0}
use Rattle.registers.specs.RegisterFiles.{page_at}
use Rattle.translation.specs.declared.Remote.TheVariants.{Target}
use Rattle.translation.specs.Translation.{address7, alias_matches, device_on, target_from}
use native.Mathlib.Omega.{arith}
use Rattle.translation.proofs.target_on.Goals as goal

-- the search at number k
target_step : (pages : List ℕ) (port address k : ℕ) → k < 8
    → target_from pages port address k (8 - k)
    ≡ cond (alias_matches (page_at pages port (TARGET_ALIAS_0 + k)) address)
    (device_on port (Target k (address7 (page_at pages port (TARGET_ID_0 + k)))))
    (target_from pages port address (k + 1) (8 - (k + 1)))
unfolding target_from
target_step pages port address k h = let left : 8 - k ≡ suc (8 - (k + 1)) = omega arith in rw (left, add-one k)

pub returns-then-alias_matches : goal.returns-then-alias_matches
returns-then-alias_matches c =
    let l = c.loop-k in
    let hit = sym c.alias_matches.ensures ∙ c.if-alias_matches.true in
    sym (target_step _ _ _ l.k (omega arith) ∙ rw hit) ∙ l.invariant

pub loop-k-preserved : goal.loop-k-preserved
loop-k-preserved c =
    let l = c.loop-k in
    let missed = sym c.alias_matches.ensures ∙ c.if-alias_matches.false in
    sym (target_step _ _ _ l.k (omega arith) ∙ rw missed) ∙ l.invariant

pub returns : goal.returns
unfolding target_from
returns c =
    let l = c.loop-k in
    let none : 8 - l.k ≡ 0 = omega arith in
    rw none at l.invariant
