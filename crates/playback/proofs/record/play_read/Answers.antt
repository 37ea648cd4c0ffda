-- `playback::record::play_read` meets its contract.
use Rattle.playback.specs.Playing.{play_asked}
use Rattle.playback.proofs.record.play_read.Goals as goal

pub returns : goal.returns
unfolding play_asked
returns c = λ packets. rw c.read-value.ensures
