-- `translation::receivers_of` meets its contract. The loop's invariant: the ports below `port` are collected.
use mathlib.Core.Path.{◌≡◌}
use lib.ListN.{take}
use Rattle.translation.specs.Translation.{on_ports, receivers}
use Rattle.translation.specs.Collecting.{collected}
use Rattle.translation.proofs.receivers_of.Given as goal

abbrev pub invariant-loop-port : goal.invariant-loop-port
invariant-loop-port l = collected l.so_far ≡ receivers (take l.port (on_ports l.pages l.address))
