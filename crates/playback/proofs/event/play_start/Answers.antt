-- `playback::event::play_start` meets its contract: the answer of the event, with the header in the buffer after it.
use Rattle.frames.specs.Events.{start_event}
use Rattle.answers.specs.declared.EventKind.TheVariants.{Start}
use Rattle.playback.specs.Playing.{play_asked}
use Rattle.playback.proofs.RecordPlays.{event_played}
use Rattle.playback.proofs.event.play_start.Goals as goal

pub returns : goal.returns
unfolding play_asked
returns c =
    let x = c.args in
    event_played Start x.port x.packets.now x.hub (start_event x.port x.bits) c.start-started.ensures c.event_answer.ensures
