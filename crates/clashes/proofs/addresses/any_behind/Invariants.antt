-- `clashes::addresses::any_behind` meets its contract. The loop's invariant: what is left decides.
use Rattle.std.proofs.Common.{◌≡◌, drop}
use Rattle.translation.specs.Translation.{devices_of}
use Rattle.clashes.specs.Addresses.{any_behind}
use Rattle.clashes.proofs.addresses.any_behind.Given as goal

abbrev pub invariant-loop-k : goal.invariant-loop-k
invariant-loop-k l =
    any_behind l.fn.port (drop l.k (devices_of l.fn.devices)) ≡ any_behind l.fn.port (devices_of l.fn.devices)
