-- `registers::write_ports` meets its contract. The loop's invariant: the ports below `port` are done.
use mathlib.Core.Path.{◌≡◌}
use Rattle.registers.specs.RegisterFiles.{write_ports}
use Rattle.registers.proofs.write_ports.Given as goal

abbrev pub invariant-loop-port : goal.invariant-loop-port
invariant-loop-port l = l.next ≡ write_ports l.port l.access l.initial.next l.offset l.value
