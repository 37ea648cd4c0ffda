-- `tracewrites::record::take_next` meets its contract: a record, or none.
use Rattle.tracewrites.specs.RecordTurns.{take_next}
use Rattle.tracewrites.proofs.TakeLaws.{tests}
use mathlib.Core.Path.{sym, ◌∙◌}
use lib.ListN.{length}
use Rattle.tracewrites.proofs.record.take_next.Goals as goal

pub take_record-requires : goal.take_record-requires
take_record-requires c =
    let x = c.args in
    (tests x.refusal x.left.now x.last (length x.values.now) (sym c.may_take_record.ensures ∙ c.if-may_take_record.true)).room

pub returns-then-may_take_record : goal.returns-then-may_take_record
unfolding take_next
returns-then-may_take_record c = rw (sym c.may_take_record.ensures ∙ c.if-may_take_record.true) c.take_record.ensures

pub returns : goal.returns
unfolding take_next
returns c = rw (sym c.may_take_record.ensures ∙ c.if-may_take_record.false, c.not_passed.ensures, c.refusal_then.ensures)
