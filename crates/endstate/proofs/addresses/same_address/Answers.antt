-- `endstate::addresses::same_address` meets its contract.
use Rattle.endstate.proofs.AddressLaws.{address_by}
use Rattle.endstate.proofs.addresses.same_address.Goals as goal

pub returns : goal.returns
returns c =
    let a = c.args in
    address_by a.end.now.hub a.end.now.state a.address c.ports_of_address-ports.ensures c.aliases_that_match.ensures
    c.shared_by.ensures
