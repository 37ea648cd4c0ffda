-- `endstate::addresses::lines_of_devices` meets its contract. The loop's invariant: the devices from the last one down.
use Rattle.std.proofs.Common.{◌≡◌, ◌-◌, drop}
use Rattle.translation.specs.Translation.{devices_of}
use Rattle.endstate.specs.RisingLines.{rising_lines}
use Rattle.endstate.specs.LineRows.{lines_row}
use Rattle.endstate.specs.Addresses.{devices_origins}
use Rattle.endstate.proofs.addresses.lines_of_devices.Given as goal

abbrev pub invariant-loop-k : goal.invariant-loop-k
invariant-loop-k l =
    l.lines ≡ lines_row (rising_lines (devices_origins l.fn.state (drop (4 - l.k) (devices_of l.fn.devices))))
