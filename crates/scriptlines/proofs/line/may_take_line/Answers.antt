-- `scriptlines::line::may_take_line` meets its contract: each test of the definition.
use Rattle.std.proofs.Common.{not, sym, ap, ◌∙◌}
use Rattle.scriptlines.specs.TakenLines.{may_take_next}
use Rattle.scriptlines.proofs.LineLaws.{none_refused}
use Rattle.scriptlines.proofs.line.may_take_line.Goals as goal
use Rattle.scriptlines.proofs.line.may_take_line.Goals.{then-is_some-via-then-is_some, then-is_some-via-else-is_some+then-not-has_room}

pub returns-then-is_some : goal.returns-then-is_some
unfolding may_take_next
returns-then-is_some c =
    let none = none_refused c.args.run.refusal ∙ ap not (sym c.is_some.ensures) in
    elim c.then-is_some.branch [ then-is_some-via-then-is_some w ↦ rw (none, w.if-is_some.true) | then-is_some-via-else-is_some+then-not-has_room w ↦ rw (none, w.if-is_some.false, sym w.has_room.ensures ∙ w.if-not-has_room.true) ]

pub returns-then-last : goal.returns-then-last
unfolding may_take_next
returns-then-last c =
    let none = none_refused c.args.run.refusal ∙ ap not (sym c.is_some.ensures) in
    rw (none, c.if-is_some.false, sym c.has_room.ensures ∙ c.if-not-has_room.false, c.if-last.true)

pub returns : goal.returns
unfolding may_take_next
returns c =
    let none = none_refused c.args.run.refusal ∙ ap not (sym c.is_some.ensures) in
    rw (none, c.if-is_some.false, sym c.has_room.ensures ∙ c.if-not-has_room.false, c.if-last.false) c.holds_script_line.ensures
