-- `trace::record_at` meets its contract, by the tests of the definition.
use mathlib.Core.Path.{sym}
use Rattle.trace.specs.Records.{record_of}
use Rattle.trace.proofs.record_at.Goals as goal
use Rattle.trace.proofs.record_at.Goals.{else-holds_record-via-else-holds_record, else-holds_record-via-then-holds_record+else-has_mark}

pub returns-then-has_mark : goal.returns-then-has_mark
unfolding record_of
returns-then-has_mark c =
    rw (
      sym c.holds_record.ensures,
      c.if-holds_record.true,
      sym c.has_mark.ensures,
      c.if-has_mark.true,
      sym c.kind_byte.ensures,
      sym c.data_of.ensures,
    )
    c.kind_record.ensures

pub returns : goal.returns
unfolding record_of
returns c =
    let holds = sym c.holds_record.ensures in
    elim c.else-holds_record.branch [ else-holds_record-via-then-holds_record+else-has_mark w ↦ rw (holds, w.if-holds_record.true, sym w.has_mark.ensures, w.if-has_mark.false) | else-holds_record-via-else-holds_record w ↦ rw (holds, w.if-holds_record.false) ]
