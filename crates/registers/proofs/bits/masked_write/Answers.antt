-- `registers::bits::masked_write` meets its contract.
use Rattle.laws.specs.MaskedWrites.{masked}
use borrow.Author.Rules.{rules}
use Rattle.registers.proofs.bits.masked_write.Goals as goal

pub returns : goal.returns
unfolding masked
returns c = search rules
