-- `endstate::addresses::aliases_of_devices` meets its contract. The loop's invariant: the devices from the last one down.
use Rattle.std.proofs.Common.{◌≡◌, ◌-◌, drop}
use Rattle.translation.specs.Translation.{devices_of}
use Rattle.endstate.specs.Gathering.{gathered_of}
use Rattle.endstate.specs.Addresses.{alias_origins}
use Rattle.endstate.proofs.addresses.aliases_of_devices.Given as goal

abbrev pub invariant-loop-k : goal.invariant-loop-k
invariant-loop-k l =
    l.gathered ≡ gathered_of (alias_origins l.fn.state (drop (4 - l.k) (devices_of l.fn.devices)))
