-- `origins::effects::ports_effect` meets its contract, by whether a port is ticked.
use Rattle.std.proofs.Common.{sym}
use Rattle.origins.proofs.EffectLaws.{ports_none, ports_some}
use Rattle.origins.proofs.effects.ports_effect.Goals as goal

pub returns-then-reached-eq0 : goal.returns-then-reached-eq0
returns-then-reached-eq0 c =
    let asked = c.requires in
    sym (ports_none _ _ _ asked.0 asked.1 c.selected_ports-reached.ensures c.if-reached-eq0.true)

pub returns : goal.returns
returns c =
    let asked = c.requires in
    sym (ports_some _ _ _ asked.0 asked.1 c.selected_ports-reached.ensures c.if-reached-eq0.false
    c.write-after.ensures c.differing_ports-changed.ensures c.ignores_bits-bits_ignored.ensures)
