-- `calls::scan::is_blank` meets its contract, byte by byte.
use borrow.Author.Tests.{eq-eqb, ne_eqb}
use Rattle.calls.specs.Grammar.{is_blank}
use Rattle.calls.proofs.scan.is_blank.Goals as goal

pub returns-then-byte-eq32 : goal.returns-then-byte-eq32
unfolding is_blank
returns-then-byte-eq32 c = rw (eq-eqb c.args.byte 32 c.if-byte-eq32.true)

pub returns-else-byte-eq32 : goal.returns-else-byte-eq32
unfolding is_blank
returns-else-byte-eq32 c = rw (ne_eqb c.args.byte 32 c.if-byte-eq32.false)
