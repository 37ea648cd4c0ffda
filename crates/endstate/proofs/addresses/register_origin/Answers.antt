-- `endstate::addresses::register_origin` meets its contract, by the kind of the device.
use mathlib.Core.Path.{◌∙◌}
use Rattle.endstate.proofs.AddressLaws.{register_by}
use Rattle.endstate.proofs.addresses.register_origin.Goals as goal

pub returns-in-Serializer : goal.returns-in-Serializer
returns-in-Serializer c =
    let a = c.args in
    c.port_origin.ensures
    ∙ register_by a.state a.device a.serializer a.targets _ c.in-Serializer.is

pub returns-in-Target : goal.returns-in-Target
returns-in-Target c =
    let a = c.args in
    c.origin_in_row.ensures
    ∙ register_by a.state a.device a.serializer a.targets _ c.in-Target.is
