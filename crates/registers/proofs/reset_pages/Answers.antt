-- `registers::reset_pages` meets its contract.
use Rattle.laws.proofs.Tables.{filled_all}
use Rattle.registers.specs.RegisterFiles.{page_reset_at}
use native.Mathlib.Omega.{arith}
use Rattle.registers.proofs.reset_pages.Goals as goal

pub returns : goal.returns
returns c = filled_all page_reset_at 1024 _ _ (omega arith) c.loop-index.invariant
