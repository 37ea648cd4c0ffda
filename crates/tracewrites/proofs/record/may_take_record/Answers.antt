-- `tracewrites::record::may_take_record` meets its contract: each test of the definition.
use Rattle.tracewrites.specs.RecordTurns.{may_take_record}
use mathlib.Core.Path.{sym, ◌∙◌}
use borrow.Author.Tests.{le-leb, lt-leb}
use Rattle.tracewrites.proofs.record.may_take_record.Goals as goal

pub returns-then-is_some : goal.returns-then-is_some
unfolding may_take_record
returns-then-is_some c = rw (sym c.is_some.ensures ∙ c.if-is_some.true)

pub returns-then-size-lt-MOST_VALUES : goal.returns-then-size-lt-MOST_VALUES
unfolding may_take_record
returns-then-size-lt-MOST_VALUES c = rw (sym c.is_some.ensures ∙ c.if-is_some.false, lt-leb _ _ c.if-size-lt-MOST_VALUES.true)

pub returns-then-last : goal.returns-then-last
unfolding may_take_record
returns-then-last c = rw (sym c.is_some.ensures ∙ c.if-is_some.false, le-leb _ _ c.if-size-lt-MOST_VALUES.false, c.if-last.true)

pub returns : goal.returns
unfolding may_take_record
returns c = rw (sym c.is_some.ensures ∙ c.if-is_some.false, le-leb _ _ c.if-size-lt-MOST_VALUES.false, c.if-last.false) c.holds_record.ensures
