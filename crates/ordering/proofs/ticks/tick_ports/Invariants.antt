-- `ordering::ticks::tick_ports` meets its contract. The loop's invariant: the ports below have their ticks.
use Rattle.std.proofs.Common.{◌≡◌}
use Rattle.ordering.proofs.TickLaws.{ticked_below}
use Rattle.ordering.proofs.ticks.tick_ports.Given as goal

abbrev pub invariant-loop-port : goal.invariant-loop-port
invariant-loop-port l = l.next ≡ ticked_below l.initial.next l.selection.number l.selection.value l.port
