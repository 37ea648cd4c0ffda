-- A turn of the source is a turn of the work on a file.
-- Assumes nothing.
use mathlib.Core.Path.{refl}
use Rattle.streams.proofs.ReadLaws.{is_next_turn}
use Rattle.tracewrites.specs.WriteFiles.{run_of, taking_trace_writes, RecordTurnIsNext}

pub record_turn_is_next : RecordTurnIsNext
record_turn_is_next way input file found got buffer result buffer_after valuesAfter at gave made =
    is_next_turn way input (run_of file found) file.window got buffer at gave taking_trace_writes
    (rw (made.records, made.refusal, made.next, made.values)) made.window made.left made.fits refl made.done
