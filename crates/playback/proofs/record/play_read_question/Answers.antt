-- `playback::record::play_read_question` meets its contract: the answer of the hub.
use Rattle.playback.specs.Playing.{play_asked}
use Rattle.playback.proofs.record.play_read_question.Goals as goal

pub returns : goal.returns
unfolding play_asked
returns c = λ packets. rw c.who_answers_read-answer.ensures
