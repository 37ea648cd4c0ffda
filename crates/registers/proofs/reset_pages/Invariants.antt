-- `registers::reset_pages` meets its contract. The loop's invariant: the first `index` registers are at their reset
-- values.
use Rattle.laws.proofs.Tables.{Filled}
use Rattle.registers.specs.RegisterFiles.{page_reset_at}
use Rattle.registers.proofs.reset_pages.Given as goal

abbrev pub invariant-loop-index : goal.invariant-loop-index
invariant-loop-index l = Filled page_reset_at 1024 l.index l.register-items
