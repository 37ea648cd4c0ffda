-- `endstate::wrong::count` meets its contract.
use Rattle.endstate.specs.Wrong.{wrong_count}
use Rattle.endstate.proofs.wrong.count.Goals as goal

pub returns : goal.returns
unfolding wrong_count
returns c =
    simp (
      c.wrong_channels.ensures.0,
      c.wrong_channels-2.ensures.0,
      c.wrong_channels-3.ensures.0,
      c.wrong_channels-4.ensures.0,
      c.wrong_addresses.ensures.0,
      c.unset_ports.ensures.0,
    )
