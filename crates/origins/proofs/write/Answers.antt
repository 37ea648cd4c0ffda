-- `origins::write` meets its contract.
use Rattle.origins.specs.KeptOrigins.{write_numbered}
use Rattle.origins.proofs.write.Goals as goal

pub returns : goal.returns
unfolding write_numbered
returns c = rw (c.write-next.ensures, c.origins_after.ensures)
