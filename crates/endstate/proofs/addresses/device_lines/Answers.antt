-- `endstate::addresses::device_lines` meets its contract.
use Rattle.endstate.proofs.AddressLaws.{device_alone}
use Rattle.endstate.proofs.addresses.device_lines.Goals as goal

pub returns : goal.returns
returns c =
    device_alone c.args.state c.args.device c.no_lines.ensures
    c.with_device.ensures
