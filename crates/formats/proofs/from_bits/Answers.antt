-- `formats::from_bits` meets its contract, by the three cases of the match.
-- Assumes nothing.
use Rattle.std.proofs.Common.{arith}
use borrow.Author.Tests.{ne_eqb}
use Rattle.formats.specs.Formats.{format_of}
use Rattle.formats.proofs.from_bits.Goals as goal

pub returns-in-10 : goal.returns-in-10
unfolding format_of
returns-in-10 c = rw c.in-10.is

pub returns-in-12 : goal.returns-in-12
unfolding format_of
returns-in-12 c = rw c.in-12.is

pub returns-in_default : goal.returns-in_default
unfolding format_of
returns-in_default c = rw (ne_eqb c.args.bits 10 (omega arith), ne_eqb c.args.bits 12 (omega arith))
