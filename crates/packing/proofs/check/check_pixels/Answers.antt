-- `packing::check::check_pixels` meets its contract, by the cases of the definition.
use mathlib.Core.Path.{◌≡◌, refl, sym, ap₂, ◌∙◌}
use mathlib.Core.Bool.{true}
use borrow.Author.Tests.{lt-ltb, le-ltb}
use lib.Dec.{ltb}
use lib.ListN.{length}
use native.Mathlib.Omega.{arith}
use Rattle.packing.specs.Raw.{width_allowed, all_fit}
use Rattle.packing.proofs.CheckLaws.{all_below_lem, check_by}
use Rattle.packing.proofs.check.check_pixels.Goals as goal
use Rattle.packing.proofs.check.check_pixels.Goals.{After-or_all, Else-not-width_allowed}

-- after the first test the width is allowed, and the second compares the bits of all pixels with the limit
allowed : (e : Else-not-width_allowed) → let x = e.args in width_allowed x.format (length x.pixels.now) ≡ true
allowed e = sym e.width_allowed.ensures ∙ e.if-not-width_allowed.false

compared : (l : After-or_all) → let x = l.args in
    all_fit x.format x.pixels.now ≡ ltb l.or_all.result l.pixel_limit.result
compared l = sym (all_below_lem _ _) ∙ ap₂ ltb (sym l.or_all.ensures) (sym l.pixel_limit.ensures)

pub returns-then-not-width_allowed : goal.returns-then-not-width_allowed
returns-then-not-width_allowed c = sym (check_by _ _ (sym c.width_allowed.ensures ∙ c.if-not-width_allowed.true) refl)

pub returns-then-pixel_limit-or_all : goal.returns-then-pixel_limit-or_all
returns-then-pixel_limit-or_all c = sym (check_by _ _ (allowed ((goal.at.returns-then-pixel_limit-or_all c).Else-not-width_allowed)) (compared ((goal.at.returns-then-pixel_limit-or_all c).After-or_all) ∙ le-ltb _ _ c.if-pixel_limit-or_all.true))

pub returns : goal.returns
returns c = sym (check_by _ _ (allowed ((goal.at.returns c).Else-not-width_allowed)) (compared ((goal.at.returns c).After-or_all) ∙ lt-ltb _ _ (omega (arith, c.if-pixel_limit-or_all.false))))
