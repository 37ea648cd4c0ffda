-- A turn of the source is a turn of the work on a file.
-- Assumes nothing.
use Rattle.streams.proofs.ReadLaws.{is_next_turn}
use Rattle.scriptlines.specs.TakenLines.{done_of}
use Rattle.scriptlines.specs.ScriptFiles.{taking_lines, ScriptTurnIsNext}

pub script_turn_is_next : ScriptTurnIsNext
script_turn_is_next way input file got buffer result buffer_after outAfter at gave made =
    is_next_turn way input (done_of file.run) file.window got buffer at gave taking_lines
    made.run made.window made.left made.fits (rw (made.end, made.records)) made.done
