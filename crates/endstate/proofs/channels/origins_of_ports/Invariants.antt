-- `endstate::channels::origins_of_ports` meets its contract. The loop's invariant: the ports from the last one down.
use Rattle.std.proofs.Common.{◌≡◌}
use Rattle.laws.specs.Bits.{bit}
use Rattle.origins.specs.Origins.{port_register}
use Rattle.origins.specs.KeptOrigins.{kept_number}
use Rattle.endstate.specs.Gathering.{gathered_of}
use Rattle.endstate.proofs.ChannelLaws.{last_ports}
use Rattle.endstate.proofs.channels.origins_of_ports.Given as goal

abbrev pub invariant-loop-k : goal.invariant-loop-k
invariant-loop-k l =
    l.gathered
    ≡ gathered_of (last_ports (λ port. bit port l.fn.mask) (λ port. kept_number l.fn.state (port_register port l.fn.offset)) l.k)
