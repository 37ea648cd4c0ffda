-- `packing::check::width_allowed` meets its contract, by the cases of the definition.
use mathlib.Core.Path.{sym}
use Rattle.packing.proofs.CheckLaws.{width_none, width_over, width_inside}
use Rattle.packing.proofs.check.width_allowed.Goals as goal

pub returns-then-width-lt1 : goal.returns-then-width-lt1
returns-then-width-lt1 c = sym (width_none _ _ c.if-width-lt1.true)

pub returns-then-width-gt4096 : goal.returns-then-width-gt4096
returns-then-width-gt4096 c = sym (width_over _ _ c.if-width-gt4096.true)

pub returns-in-Raw10 : goal.returns-in-Raw10
returns-in-Raw10 c = rw c.in-Raw10.is (sym (width_inside _ _ c.if-width-lt1.false c.if-width-gt4096.false))

pub returns-in-Raw12 : goal.returns-in-Raw12
returns-in-Raw12 c = rw c.in-Raw12.is (sym (width_inside _ _ c.if-width-lt1.false c.if-width-gt4096.false))
