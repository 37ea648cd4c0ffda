-- `registers::power_up::registers_at` meets its contract, by the two starts.
use Rattle.registers.specs.PowerUps.{power_up_file}
use Rattle.registers.proofs.power_up.registers_at.Goals as goal

pub returns-in-Boot : goal.returns-in-Boot
unfolding power_up_file
returns-in-Boot c = rw c.in-Boot.is c.boot.ensures

pub returns-in-Reset : goal.returns-in-Reset
unfolding power_up_file
returns-in-Reset c = rw c.in-Reset.is c.reset.ensures
