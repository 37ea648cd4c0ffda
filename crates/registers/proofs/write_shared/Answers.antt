-- `registers::write_shared` meets its contract.
use Rattle.registers.specs.RegisterFiles.{write_shared}
use Rattle.registers.proofs.write_shared.Goals as goal

pub returns : goal.returns
unfolding write_shared
returns c = cc
