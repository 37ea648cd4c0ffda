-- `ordering::kinds::kind_of` meets its contract.
use Rattle.std.proofs.Common.{sym, ◌∙◌}
use Rattle.ordering.proofs.KindLaws.{kind_not_followed, kind_selection, kind_port_register, kind_shared}
use Rattle.ordering.proofs.kinds.kind_of.Goals as goal

pub returns-then-write_mask-eq0 : goal.returns-then-write_mask-eq0
returns-then-write_mask-eq0 c = sym (kind_not_followed _ (sym c.write_mask.ensures ∙ c.if-write_mask-eq0.true))

pub returns-then-offset-eq-FPD3_PORT_SEL : goal.returns-then-offset-eq-FPD3_PORT_SEL
returns-then-offset-eq-FPD3_PORT_SEL c = sym (kind_selection _ (λ e. c.if-write_mask-eq0.false (c.write_mask.ensures ∙ e)) c.if-offset-eq-FPD3_PORT_SEL.true)

pub returns-then-is_per_port : goal.returns-then-is_per_port
returns-then-is_per_port c =
    sym (kind_port_register _ (λ e. c.if-write_mask-eq0.false (c.write_mask.ensures ∙ e)) c.if-offset-eq-FPD3_PORT_SEL.false
    (sym c.is_per_port.ensures ∙ c.if-is_per_port.true))

pub returns : goal.returns
returns c =
    sym (kind_shared _ (λ e. c.if-write_mask-eq0.false (c.write_mask.ensures ∙ e)) c.if-offset-eq-FPD3_PORT_SEL.false
    (sym c.is_per_port.ensures ∙ c.if-is_per_port.false))
