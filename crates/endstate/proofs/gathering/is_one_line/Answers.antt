-- `endstate::gathering::is_one_line` meets its contract, by the first two places.
use Rattle.endstate.proofs.GatheringLaws.{no_line_lem, first_line}
use Rattle.endstate.proofs.gathering.is_one_line.Goals as goal

pub returns-then-found-eq0 : goal.returns-then-found-eq0
returns-then-found-eq0 c = no_line_lem c.args.gathered c.if-gathered.false c.if-found-eq0.true

pub returns : goal.returns
returns c = first_line c.args.gathered c.if-gathered.false c.if-found-eq0.false
