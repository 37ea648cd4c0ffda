-- `endstate::addresses::with_alias` meets its contract.
use Rattle.endstate.proofs.GatheringLaws.{gathered_more}
use Rattle.endstate.proofs.addresses.with_alias.Goals as goal

pub returns : goal.returns
returns c = λ numbers e. gathered_more numbers _ e c.alias_origin.ensures c.with_origin.ensures
