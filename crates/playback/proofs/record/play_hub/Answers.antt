-- `playback::record::play_hub` meets its contract: a hub, or refusal 2, which ends the run.
use Rattle.std.proofs.Common.{sym}
use Rattle.playback.specs.Playing.{play_asked}
use Rattle.playback.proofs.record.play_hub.Goals as goal

pub returns-in-Ok : goal.returns-in-Ok
unfolding play_asked
returns-in-Ok c = λ packets. rw (sym c.new.ensures.0, c.in-Ok.is)

pub returns-in-Err : goal.returns-in-Err
unfolding play_asked
returns-in-Err c = λ packets. rw (sym c.new.ensures.0, c.in-Err.is)
