-- `printing::question::put_devices` meets its contract. The loop's invariant: the first k devices are put.
use lib.ListN.{take}
use Rattle.buffers.specs.Putting.{Puts}
use Rattle.translation.specs.Translation.{devices_of}
use Rattle.printing.specs.PrintedLines.{devices_text}
use Rattle.printing.proofs.question.put_devices.Given as goal

abbrev pub invariant-loop-k : goal.invariant-loop-k
invariant-loop-k l = Puts l.initial.out l.at (devices_text (take l.k (devices_of l.devices))) l.out l.next
