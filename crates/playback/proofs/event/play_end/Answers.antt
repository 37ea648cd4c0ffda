-- `playback::event::play_end` meets its contract: the answer of the event, with the header in the buffer after it.
use Rattle.frames.specs.Events.{end_event}
use Rattle.answers.specs.declared.EventKind.TheVariants.{End}
use Rattle.playback.specs.Playing.{play_asked}
use Rattle.playback.proofs.RecordPlays.{event_played}
use Rattle.playback.proofs.event.play_end.Goals as goal

pub returns : goal.returns
unfolding play_asked
returns c =
    let x = c.args in
    event_played End x.port x.packets.now x.hub (end_event x.port) c.end-ended.ensures c.event_answer.ensures
