-- `registers::reset` meets its contract.
use Rattle.registers.specs.RegisterFiles.{reset_file}
use Rattle.registers.proofs.reset.Goals as goal

pub returns : goal.returns
unfolding reset_file
returns c = cc
