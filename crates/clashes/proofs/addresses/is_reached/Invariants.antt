-- `clashes::addresses::is_reached` meets its contract. The loop's invariant: no address so far reaches the port.
use Rattle.std.proofs.Common.{◌≡◌, false}
use Rattle.clashes.specs.Addresses.{address_reaches, any_below}
use Rattle.clashes.proofs.addresses.is_reached.Given as goal

abbrev pub invariant-loop-address : goal.invariant-loop-address
invariant-loop-address l = any_below (λ address. address_reaches l.fn.hub address l.fn.port) l.address ≡ false
