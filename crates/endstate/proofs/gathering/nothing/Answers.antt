-- `endstate::gathering::nothing` meets its contract.
use Rattle.endstate.proofs.GatheringLaws.{gathered_none}
use Rattle.endstate.proofs.gathering.nothing.Goals as goal

pub returns : goal.returns
returns c = gathered_none c.no_lines.ensures
