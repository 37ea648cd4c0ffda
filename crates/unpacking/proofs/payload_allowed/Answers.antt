-- `unpacking::payload_allowed` meets its contract, by the cases of the definition.
use mathlib.Core.Path.{◌≡◌, sym}
use Prim.Native.Nat.{◌%◌}
use native.Mathlib.Omega.{arith}
use lib.Dec.{eqb}
use Rattle.packing.specs.Raw.{group_bytes}
use Rattle.unpacking.specs.Unpacking.{payload_allowed}
use Rattle.unpacking.proofs.AnswerLaws.{payload_none, payload_over, payload_inside}
use Rattle.unpacking.proofs.payload_allowed.Goals as goal
use Rattle.unpacking.proofs.payload_allowed.Goals.{Else-width_of-gt4096}

-- after both tests the remainder decides
inside : (e : Else-width_of-gt4096) → let x = e.args in payload_allowed x.format x.count ≡ eqb (x.count % group_bytes x.format) 0
inside e = payload_inside _ _ e.if-count-lt1.false (omega (arith, e.width_of.ensures))

pub returns-then-count-lt1 : goal.returns-then-count-lt1
returns-then-count-lt1 c = sym (payload_none _ _ c.if-count-lt1.true)

pub returns-then-width_of-gt4096 : goal.returns-then-width_of-gt4096
returns-then-width_of-gt4096 c = let x = c.args in sym (payload_over x.format x.count (omega (arith, c.width_of.ensures)))

pub returns-in-Raw10 : goal.returns-in-Raw10
returns-in-Raw10 c = rw (inside ((goal.at.returns-in-Raw10 c).Else-width_of-gt4096), c.in-Raw10.is)

pub returns-in-Raw12 : goal.returns-in-Raw12
returns-in-Raw12 c = rw (inside ((goal.at.returns-in-Raw12 c).Else-width_of-gt4096), c.in-Raw12.is)
