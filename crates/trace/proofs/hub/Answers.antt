-- `trace::hub` meets its contract, by the bytes that it has.
use mathlib.Core.Path.{sym}
use borrow.Author.Tests.{ne_eqb}
use Rattle.trace.specs.Records.{hub_asked}
use Rattle.trace.proofs.hub.Goals as goal

pub returns-then-bytes-eq1 : goal.returns-then-bytes-eq1
unfolding hub_asked
returns-then-bytes-eq1 c = rw (c.if-bytes-eq1.true, c.byte_at-address.ensures)

pub returns-then-byte_at-eq0 : goal.returns-then-byte_at-eq0
unfolding hub_asked
returns-then-byte_at-eq0 c = rw (ne_eqb _ 1 c.if-bytes-eq1.false, sym c.byte_at.ensures, c.if-byte_at-eq0.true, c.byte_at-address.ensures)

pub returns : goal.returns
unfolding hub_asked
returns c = rw (ne_eqb _ 1 c.if-bytes-eq1.false, sym c.byte_at.ensures, ne_eqb _ 0 c.if-byte_at-eq0.false)
