-- A turn of the source is the definition's, and a turn of the work on a file.
-- Assumes nothing.
use mathlib.Core.Path.{◌≡◌, ap, ◌∙◌}
use mathlib.Core.List.{List}
use Prim.Native.Nat.{ℕ}
use Rattle.std.specs.Prelude.{Option}
use Rattle.streams.proofs.ReadLaws.{is_next_turn}
use Rattle.scriptlines.specs.declared.ScriptFile.{ScriptFile}
use Rattle.scriptlines.specs.declared.ScriptTurn.{ScriptTurn}
use Rattle.scriptlines.specs.TakenLines.{LinesDone, done_of}
use Rattle.scriptlines.specs.ScriptFiles.{MakesScriptTurn}
use Rattle.origins.specs.declared.NumberedWrite.{NumberedWrite}
use Rattle.scriptwrites.specs.ScriptWrites.{one_record, write_in, MakesWriteTurn, taking_script_writes}
use Rattle.scriptwrites.specs.ScriptWrites.{WriteTurnIsNext}

-- a turn that puts at most one record gives its write
pub makes_write_turn : (file : ScriptFile) (got : ℕ) (buffer : List ℕ) {made : ScriptTurn} {write : Option NumberedWrite} {buffer_after outAfter : List ℕ}
    → MakesScriptTurn file got buffer one_record made buffer_after outAfter → write ≡ write_in made.end made.file.run.lines outAfter
    → MakesWriteTurn file got buffer (record { file = made.file; write = write; done = made.done }) buffer_after
makes_write_turn file got buffer {made} turn e =
    let number = ap (λ (d : LinesDone). d.lines) turn.run in
    record {
      run = turn.run;
      window = turn.window;
      left = turn.left;
      fits = turn.fits;
      write = e ∙ rw (turn.end, turn.records, number);
      done = turn.done;
    }

pub write_turn_is_next : WriteTurnIsNext
write_turn_is_next way input file got buffer result buffer_after at gave made =
    is_next_turn way input (done_of file.run) file.window got buffer at gave taking_script_writes
    made.run made.window made.left made.fits (rw made.write) made.done
