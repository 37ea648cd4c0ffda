-- `playback::event::play_pixel_line` meets its contract: the answer for the pixels that are lent is that for all of them.
use Rattle.std.proofs.Common.{length, replicate}
use Rattle.frames.specs.Events.{pixel_line_event}
use Rattle.answers.specs.declared.EventKind.TheVariants.{PixelLine}
use Rattle.playback.specs.Playing.{play_asked}
use Rattle.playback.proofs.RecordPlays.{event_played, lent_pixels}
use Rattle.playback.proofs.event.play_pixel_line.Goals as goal

pub returns : goal.returns
unfolding play_asked
returns c =
    let x = c.args in
    let same = lent_pixels x.hub x.port (length x.packets.now) x.width x.pixel c.equal_pixels-pixels.ensures.0 c.min-lent.ensures in
    event_played PixelLine x.port x.packets.now x.hub (pixel_line_event x.port (replicate x.width x.pixel)) (rw same at c.pixel_line-answer.ensures) c.event_answer.ensures
