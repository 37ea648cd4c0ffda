-- `tracetext::record::may_list` meets its contract: each test of the definition.
use Rattle.std.proofs.Common.{sym, ◌∙◌}
use Rattle.tracetext.specs.TextWindows.{may_list_next}
use Rattle.tracetext.proofs.record.may_list.Goals as goal

pub returns-then-is_some : goal.returns-then-is_some
unfolding may_list_next
returns-then-is_some c = rw (sym c.is_some.ensures ∙ c.if-is_some.true)

pub returns-then-not-has_room : goal.returns-then-not-has_room
unfolding may_list_next
returns-then-not-has_room c = rw (sym c.is_some.ensures ∙ c.if-is_some.false, sym c.has_room.ensures ∙ c.if-not-has_room.true)

pub returns-then-last : goal.returns-then-last
unfolding may_list_next
returns-then-last c = rw (sym c.is_some.ensures ∙ c.if-is_some.false, sym c.has_room.ensures ∙ c.if-not-has_room.false, c.if-last.true)

pub returns : goal.returns
unfolding may_list_next
returns c =
    rw (sym c.is_some.ensures ∙ c.if-is_some.false, sym c.has_room.ensures ∙ c.if-not-has_room.false, c.if-last.false)
    c.holds_record.ensures
