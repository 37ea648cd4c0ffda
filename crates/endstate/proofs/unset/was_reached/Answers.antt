-- `endstate::unset::was_reached` meets its contract. The loop's invariant: no register so far has an origin.
use mathlib.Core.Path.{◌≡◌, sym}
use native.Mathlib.Omega.{arith}
use Rattle.clashes.proofs.AddressLaws.{any_none, any-more, any_hit}
use Rattle.endstate.specs.Unset.{has_origin, was_reached}
use Rattle.endstate.proofs.UnsetLaws.{has_origin_lem, no_origin}
use Rattle.endstate.proofs.unset.was_reached.Goals as goal

pub loop-offset-init : goal.loop-offset-init
loop-offset-init c = any_none _

pub returns-then-port_origin-ne0 : goal.returns-then-port_origin-ne0
unfolding was_reached
returns-then-port_origin-ne0 c =
    let l = c.loop-offset in
    let a = c.args in
    sym (any_hit (has_origin a.state a.port) 256 l.offset (omega arith)
    (has_origin_lem a.state a.port l.offset c.port_origin.ensures c.if-port_origin-ne0.true))

pub loop-offset-preserved : goal.loop-offset-preserved
loop-offset-preserved c =
    let l = c.loop-offset in
    let a = c.args in
    any-more (has_origin a.state a.port) l.offset l.invariant
    (no_origin a.state a.port l.offset c.port_origin.ensures c.if-port_origin-ne0.false)

pub returns : goal.returns
unfolding was_reached
returns c =
    let l = c.loop-offset in
    let all : l.offset ≡ 256 = omega arith in
    sym (rw all at l.invariant)
