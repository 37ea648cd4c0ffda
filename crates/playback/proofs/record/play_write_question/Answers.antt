-- `playback::record::play_write_question` meets its contract: the answer of the hub.
use Rattle.playback.specs.Playing.{play_asked}
use Rattle.playback.proofs.record.play_write_question.Goals as goal

pub returns : goal.returns
unfolding play_asked
returns c = λ packets. rw c.who_hears_write-answer.ensures
