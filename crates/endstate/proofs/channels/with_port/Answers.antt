-- `endstate::channels::with_port` meets its contract, by whether the port is in the mask.
use mathlib.Core.Path.{sym, ◌∙◌}
use Rattle.endstate.proofs.GatheringLaws.{gathered_more}
use Rattle.endstate.proofs.channels.with_port.Goals as goal

pub returns : goal.returns
returns c =
    λ numbers e.
    rw (sym c.is_set.ensures ∙ c.if-not-is_set.false)
    (gathered_more numbers _ e c.port_origin-number.ensures c.with_origin.ensures)
