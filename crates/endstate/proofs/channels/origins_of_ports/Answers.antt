-- `endstate::channels::origins_of_ports` meets its contract.
use Rattle.std.proofs.Common.{◌∙◌, ap, arith}
use Rattle.laws.specs.Bits.{bit}
use Rattle.origins.specs.Origins.{port_register}
use Rattle.origins.specs.KeptOrigins.{kept_number}
use Rattle.endstate.specs.Gathering.{gathered_of}
use Rattle.endstate.proofs.ChannelLaws.{last_ports, four_ports, one_port}
use Rattle.endstate.proofs.channels.origins_of_ports.Goals as goal

pub loop-k-init : goal.loop-k-init
unfolding last_ports
loop-k-init c = c.nothing-gathered.ensures

pub loop-k-preserved : goal.loop-k-preserved
loop-k-preserved c =
    let a = c.args in
    one_port (λ port. bit port a.mask) (λ port. kept_number a.state (port_register port a.offset)) c.loop-k.k
    c.with_port-gathered.ensures c.loop-k.invariant

pub returns : goal.returns
returns c =
    let a = c.args in
    let l = c.loop-k in
    l.invariant
    ∙ ap gathered_of (four_ports (λ port. bit port a.mask) (λ port. kept_number a.state (port_register port a.offset))
    l.k (omega arith) (omega arith))
