-- `playback::window::may_play` meets its contract: each test of the definition.
use Rattle.std.proofs.Common.{sym, ◌∙◌}
use Rattle.playback.specs.Windows.{may_play_next}
use Rattle.playback.proofs.window.may_play.Goals as goal

pub returns-then-session : goal.returns-then-session
unfolding may_play_next
returns-then-session c = rw c.if-session.true

pub returns-then-not-has_room : goal.returns-then-not-has_room
unfolding may_play_next
returns-then-not-has_room c = rw (c.if-session.false, sym c.has_room.ensures ∙ c.if-not-has_room.true)

pub returns-then-last : goal.returns-then-last
unfolding may_play_next
returns-then-last c = rw (c.if-session.false, sym c.has_room.ensures ∙ c.if-not-has_room.false, c.if-last.true)

pub returns : goal.returns
unfolding may_play_next
returns c = rw (c.if-session.false, sym c.has_room.ensures ∙ c.if-not-has_room.false, c.if-last.false) c.holds_record.ensures
