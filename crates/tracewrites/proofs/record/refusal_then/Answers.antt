-- `tracewrites::record::refusal_then` meets its contract: each test of the definition.
use mathlib.Core.Path.{sym, ◌∙◌}
use borrow.Author.Tests.{eq-eqb, ne_eqb}
use Rattle.tracewrites.specs.RecordTurns.{refusal_then}
use Rattle.tracewrites.proofs.record.refusal_then.Goals as goal

pub returns-then-is_some : goal.returns-then-is_some
unfolding refusal_then
returns-then-is_some c = rw (sym c.is_some.ensures ∙ c.if-is_some.true)

pub returns-then-records-ne0 : goal.returns-then-records-ne0
unfolding refusal_then
returns-then-records-ne0 c = rw (sym c.is_some.ensures ∙ c.if-is_some.false, ne_eqb _ 0 c.if-records-ne0.true)

pub returns-then-nothing_left : goal.returns-then-nothing_left
unfolding refusal_then
returns-then-nothing_left c = rw (sym c.is_some.ensures ∙ c.if-is_some.false, eq-eqb _ 0 c.if-records-ne0.false, sym c.nothing_left.ensures ∙ c.if-nothing_left.true)

pub returns : goal.returns
unfolding refusal_then
returns c = rw (sym c.is_some.ensures ∙ c.if-is_some.false, eq-eqb _ 0 c.if-records-ne0.false, sym c.nothing_left.ensures ∙ c.if-nothing_left.false)
