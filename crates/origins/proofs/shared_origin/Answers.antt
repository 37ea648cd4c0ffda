-- `origins::shared_origin` meets its contract.
use Rattle.std.proofs.Common.{refl}
use Rattle.origins.specs.KeptOrigins.{kept_number}
use Rattle.origins.proofs.shared_origin.Goals as goal

pub returns : goal.returns
unfolding kept_number
returns c = refl
