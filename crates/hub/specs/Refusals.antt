-- The refusals of the hub, by their numbers in document 01.
-- Assumes nothing.
use Rattle.std.specs.Prelude.{ℕ}
use Rattle.hub.specs.declared.AddressOutOfRange.{AddressOutOfRange}
use Rattle.hub.specs.declared.forwarding.NoSuchPort.{NoSuchPort}

-- refusal 2: "for the hub's own, outside 0x08 to 0x77"
abbrev pub address_out_of_range_number : AddressOutOfRange → ℕ
address_out_of_range_number refusal = 2

-- refusal 1: "port above 3"
abbrev pub no_such_port_number : NoSuchPort → ℕ
no_such_port_number refusal = 1
