-- A turn of the source is a turn of the work on a file.
-- Assumes nothing.
use Rattle.streams.proofs.ReadLaws.{is_next_turn}
use Rattle.turns.specs.Turns.{playing, TurnIsNext}

pub turn_is_next : TurnIsNext
turn_is_next way input run got buffer packets result buffer_after packetsAfter outAfter at gave made =
    is_next_turn way input (record { session = run.session; packets = packets }) run.window got buffer at gave playing
    (rw (made.session, made.packet_buffer)) made.window made.left made.fits (rw (made.end, made.text)) made.done
