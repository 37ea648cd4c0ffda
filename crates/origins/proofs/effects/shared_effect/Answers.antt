-- `origins::effects::shared_effect` meets its contract, by whether it is the selection.
use Rattle.std.proofs.Common.{sym, refl}
use Rattle.origins.proofs.EffectLaws.{shared_selected, shared_other}
use Rattle.origins.proofs.effects.shared_effect.Goals as goal

pub returns-then-at-eq-FPD3_PORT_SEL : goal.returns-then-at-eq-FPD3_PORT_SEL
returns-then-at-eq-FPD3_PORT_SEL c =
    sym (shared_selected _ _ _ c.write-after.ensures refl c.ignores_bits-bits_ignored.ensures
    c.if-at-eq-FPD3_PORT_SEL.true c.selected_ports-ports.ensures)

pub returns : goal.returns
returns c = sym (shared_other _ _ _ c.write-after.ensures refl c.ignores_bits-bits_ignored.ensures c.if-at-eq-FPD3_PORT_SEL.false)
