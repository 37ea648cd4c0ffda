-- `registers::bits::is_set` meets its contract: a byte has no bit above 7.
use mathlib.Core.Path.{sym}
use Rattle.laws.specs.Bits.{bit}
use Rattle.laws.proofs.Bits.{bit_above}
use borrow.Author.Rules.{rules}
use Rattle.registers.proofs.bits.is_set.Goals as goal

pub returns-then-k-gt7 : goal.returns-then-k-gt7
returns-then-k-gt7 c = sym (bit_above 8 c.args.k c.args.x c.ranges.x.fits c.if-k-gt7.true)

pub returns : goal.returns
unfolding bit
returns c = search rules
