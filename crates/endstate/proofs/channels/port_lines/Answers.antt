-- `endstate::channels::port_lines` meets its contract.
use Rattle.endstate.specs.Channels.{port_lines}
use Rattle.endstate.proofs.channels.port_lines.Goals as goal

pub returns : goal.returns
unfolding port_lines
returns c = rw (c.shared_origin.ensures, c.port_origin.ensures, c.port_origin-2.ensures)
