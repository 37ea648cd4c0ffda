-- `endstate::channels::same_channel` meets its contract.
use Rattle.endstate.proofs.ChannelLaws.{channel_by}
use Rattle.endstate.proofs.channels.same_channel.Goals as goal

pub returns : goal.returns
returns c =
    let a = c.args in
    channel_by a.end.now.hub a.end.now.state a.format a.output a.channel c.ports_on-ports.ensures
    c.identifier_register.ensures c.origins_of_ports-gathered.ensures
    c.asks_for_lines.ensures c.shared_by.ensures
