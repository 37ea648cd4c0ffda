-- `ordering::ticks::tick_ports` meets its contract.
use Rattle.std.proofs.Common.{refl, sym, ◌∙◌, arith}
use Rattle.ordering.proofs.TickLaws.{ticked_below, ticked_port, other_port, four_ticked}
use Rattle.ordering.proofs.ticks.tick_ports.Goals as goal
use Rattle.ordering.proofs.ticks.tick_ports.Goals.{then-is_set, else-is_set}

pub loop-port-init : goal.loop-port-init
unfolding ticked_below
loop-port-init c = refl

pub loop-port-preserved : goal.loop-port-preserved
loop-port-preserved c =
    let l = c.loop-port in
    elim c.if-is_set.branch [
      | then-is_set w ↦ w.next-is ∙ ticked_port _ _ _ l.port l.next l.invariant (sym c.is_set.ensures ∙ w.if-is_set.true)
      | else-is_set w ↦ w.next-is ∙ other_port _ _ _ l.port l.next l.invariant (sym c.is_set.ensures ∙ w.if-is_set.false)
    ]

pub returns : goal.returns
returns c =
    let l = c.loop-port in
    l.invariant ∙ four_ticked _ _ _ l.port (omega arith) (omega arith)
