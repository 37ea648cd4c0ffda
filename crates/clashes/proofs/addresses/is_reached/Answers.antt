-- `clashes::addresses::is_reached` meets its contract.
use Rattle.std.proofs.Common.{sym, ◌∙◌, arith}
use Rattle.clashes.proofs.AddressLaws.{any_none, any-more, reached_hit, reached_none_lem}
use Rattle.clashes.proofs.addresses.is_reached.Goals as goal

pub loop-address-init : goal.loop-address-init
loop-address-init c = any_none _

pub returns-then-address_reaches : goal.returns-then-address_reaches
returns-then-address_reaches c =
    let l = c.loop-address in
    sym (reached_hit _ _ l.address (omega arith) (sym c.address_reaches.ensures ∙ c.if-address_reaches.true))

pub loop-address-preserved : goal.loop-address-preserved
loop-address-preserved c =
    let l = c.loop-address in
    any-more _ l.address l.invariant (sym c.address_reaches.ensures ∙ c.if-address_reaches.false)

pub returns : goal.returns
returns c =
    let l = c.loop-address in
    sym (reached_none_lem _ _ l.address (omega arith) l.invariant)
