-- `playback::record::play_write` meets its contract.
use Rattle.playback.specs.Playing.{play_asked}
use Rattle.playback.proofs.record.play_write.Goals as goal

pub returns : goal.returns
unfolding play_asked
returns c = λ packets. rw c.burst.ensures
