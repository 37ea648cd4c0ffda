-- `endstate::unset::another_reached` meets its contract. The loop's invariant: none so far is another port that was reached.
use mathlib.Core.Path.{◌≡◌, sym, ◌∙◌}
use native.Mathlib.Omega.{arith}
use Rattle.clashes.proofs.AddressLaws.{any_none, any-more, any_hit}
use Rattle.endstate.specs.Unset.{other_reached, another_reached}
use Rattle.endstate.proofs.unset.another_reached.Goals as goal

pub loop-other-init : goal.loop-other-init
loop-other-init c = any_none _

pub returns-then-other_reached : goal.returns-then-other_reached
unfolding another_reached
returns-then-other_reached c =
    let l = c.loop-other in
    let a = c.args in
    sym (any_hit (other_reached a.state a.port) 4 l.other (omega arith)
    (sym c.other_reached.ensures ∙ c.if-other_reached.true))

pub loop-other-preserved : goal.loop-other-preserved
loop-other-preserved c =
    let l = c.loop-other in
    let a = c.args in
    any-more (other_reached a.state a.port) l.other l.invariant
    (sym c.other_reached.ensures ∙ c.if-other_reached.false)

pub returns : goal.returns
unfolding another_reached
returns c =
    let l = c.loop-other in
    let all : l.other ≡ 4 = omega arith in
    sym (rw all at l.invariant)
