-- `registers::scl::time` meets its contract.
use Rattle.registers.specs.SclTimes.{scl_time}
use borrow.Author.Rules.{rules}
use Rattle.registers.proofs.scl.time.Goals as goal

pub returns : goal.returns
unfolding scl_time
returns c = search rules
