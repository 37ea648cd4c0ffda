-- `endstate::addresses::with_device` meets its contract.
use Rattle.endstate.proofs.AddressLaws.{device_more}
use Rattle.endstate.proofs.addresses.with_device.Goals as goal

pub returns : goal.returns
returns c =
    λ numbers e.
    let a = c.args in
    device_more a.state a.device numbers e c.remote_origin.ensures c.with_line-with_remote.ensures
    c.alias_origin.ensures c.with_line-with_alias.ensures c.port_origin.ensures
    c.with_line.ensures
