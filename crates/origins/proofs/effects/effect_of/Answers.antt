-- `origins::effects::effect_of` meets its contract, by the cases of the offset.
use Rattle.std.proofs.Common.{sym, ◌∙◌}
use Rattle.origins.proofs.EffectLaws.{effect_none, effect_ports, effect_shared}
use Rattle.origins.proofs.effects.effect_of.Goals as goal

pub returns-then-write_mask-eq0 : goal.returns-then-write_mask-eq0
returns-then-write_mask-eq0 c = sym (effect_none _ _ _ (sym c.write_mask.ensures ∙ c.if-write_mask-eq0.true))

pub returns-then-is_per_port : goal.returns-then-is_per_port
returns-then-is_per_port c =
    c.ports_effect.ensures
    ∙ sym (effect_ports _ _ _ (λ e. c.if-write_mask-eq0.false (c.write_mask.ensures ∙ e))
    (sym c.is_per_port.ensures ∙ c.if-is_per_port.true))

pub returns : goal.returns
returns c =
    c.shared_effect.ensures
    ∙ sym (effect_shared _ _ _ (λ e. c.if-write_mask-eq0.false (c.write_mask.ensures ∙ e))
    (sym c.is_per_port.ensures ∙ c.if-is_per_port.false))
