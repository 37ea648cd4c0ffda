-- A turn of the source is a turn of the work on a file.
-- Assumes nothing.
use Rattle.streams.proofs.ReadLaws.{is_next_turn}
use Rattle.tracetext.specs.TextFiles.{listing, TextTurnIsNext}

pub text_turn_is_next : TextTurnIsNext
text_turn_is_next way input file got buffer result buffer_after outAfter at gave made =
    is_next_turn way input file.run file.window got buffer at gave listing
    made.run made.window made.left made.fits (rw (made.end, made.text)) made.done
