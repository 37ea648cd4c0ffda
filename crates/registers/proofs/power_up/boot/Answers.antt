-- `registers::power_up::boot` meets its contract.
use Rattle.registers.specs.PowerUps.{boot_file}
use Rattle.registers.proofs.power_up.boot.Goals as goal

pub returns : goal.returns
unfolding boot_file
returns c = cc
