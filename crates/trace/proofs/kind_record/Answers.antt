-- `trace::kind_record` meets its contract, by the tests of the definition.
use mathlib.Core.Path.{sym}
use Rattle.trace.specs.Records.{kind_record}
use Rattle.trace.proofs.kind_record.Goals as goal
use Rattle.trace.proofs.kind_record.Goals.{else-may_stand-via-else-may_stand, else-may_stand-via-then-may_stand+else-length_allowed}

pub returns-then-length_allowed : goal.returns-then-length_allowed
unfolding kind_record
returns-then-length_allowed c =
    rw (sym c.may_stand.ensures, c.if-may_stand.true, sym c.length_allowed.ensures, c.if-length_allowed.true)
    c.data_record.ensures

pub returns : goal.returns
unfolding kind_record
returns c =
    let stands = sym c.may_stand.ensures in
    elim c.else-may_stand.branch [ else-may_stand-via-then-may_stand+else-length_allowed w ↦ rw (stands, w.if-may_stand.true, sym w.length_allowed.ensures, w.if-length_allowed.false) | else-may_stand-via-else-may_stand w ↦ rw (stands, w.if-may_stand.false) ]
