-- `playback::window::play_one` meets its contract: its steps are those of the definition.
use Rattle.playback.specs.Windows.{state_at}
use Rattle.playback.proofs.WindowLaws.{one_played}
use Rattle.playback.proofs.window.play_one.Goals as goal

pub returns : goal.returns
returns c =
    let x = c.args in
    one_played (state_at x.session x.left.now x.packets.now x.out.now x.at) c.requires c.play_found-played.result
    c.record_at-found.ensures
    c.used_by.ensures
    c.play_found-played.ensures
    (c.session_after-after.ensures _)
    c.put_printed_line.ensures
