-- `playback::window::session_after` meets its contract.
use Rattle.std.proofs.Common.{◌≡◌, Bool, true, false, cond, refl}
use mir.Val.{bool_byte}
use Rattle.laws.specs.Reply.{is_refused}
use Rattle.answers.specs.Answers.{answer_reply}
use Rattle.playback.specs.Windows.{session_after}
use Rattle.playback.proofs.window.session_after.Goals as goal

-- a truth value as a number
as_number : (b : Bool) → bool_byte b ≡ cond b 1 0
as_number true = refl
as_number false = refl

pub returns : goal.returns
unfolding session_after
returns c = λ packets. rw (c.is_refused-refusal.ensures, as_number (is_refused (answer_reply c.args.played.answer)))
