-- The register writes of a trace of any size, turn by turn: however its bytes are read, the work ends, and what the
-- turns gave are the writes of the trace, or it is refused as the trace is.
-- Assumes nothing.
use Rattle.std.specs.Prelude.{◌≡◌, true, cond, Option, Some, None, List, [], ℕ, ◌+◌, ◌*◌, ◌^◌, ◌≤◌, ◌<◌, length, take}
use Rattle.std.specs.Prelude.{drop}
use Rattle.laws.specs.Reply.{Reply, refused_at, given}
use Rattle.laws.specs.Elements.{AreBytes}
use Rattle.streams.specs.Streams.{Work, Way, way_from, TurnInput, all_turns, AllLend, number_or_0}
use Rattle.streams.specs.Streams.{StandsAt, ReadGave, IsNextTurn}
use Rattle.trace.specs.Framing.{longest_record}
use Rattle.tracewrites.specs.declared.TraceRefusal.{TraceRefusal}
use Rattle.tracewrites.specs.declared.NextRecord.{NextRecord}
use Rattle.tracewrites.specs.declared.NextRecord.TheVariants.{Hub, Write, Other}
use Rattle.tracewrites.specs.declared.TraceFile.{TraceFile}
use Rattle.tracewrites.specs.declared.RecordTurn.{RecordTurn}
use Rattle.tracewrites.specs.TraceWrites.{TraceWrites, no_writes, with_hub, with_burst, trace_writes}
use Rattle.tracewrites.specs.RecordTurns.{trace_refusal_number, is_trace_refusal, refused_number, most_values}
use Rattle.tracewrites.specs.RecordTurns.{take_next, MakesRecordTurn}

-- what a turn gave, after what the turns before it gave: the values of a write stand at the start of the lent buffer
abbrev pub with_given : TraceWrites → Option NextRecord → List ℕ → TraceWrites
with_given before None values = before
with_given before (Some (Hub address start)) values = with_hub address start before
with_given before (Some (Write number offset count)) values = with_burst number offset (take count values) before
with_given before (Some Other) values = before

-- Between two turns: how many records were passed, whether one was refused, and what the turns gave so far. (The last
-- is for the law alone: the source does not keep it.)
pub record WritesRun : Type 0 where
  pub records : ℕ
  pub refusal : Option TraceRefusal
  pub found : TraceWrites

abbrev pub new_writes_run : WritesRun
new_writes_run = record { records = 0; refusal = None; found = no_writes }

-- The turns as work on a file (`streams`). It puts nothing out: what the turns gave is its state.
abbrev pub taking_trace_writes : Work WritesRun
taking_trace_writes last run bytes lent =
    let taken = take_next last run.records run.refusal bytes lent in
    let result = taken.result in
    record {
      state = record {
        records = result.records;
        refusal = result.refusal;
        found = with_given run.found result.next taken.values;
      };
      left = drop result.used bytes;
      put = [];
      over = is_trace_refusal result.refusal;
    }

-- where a program stands that has the file's state, and whose turns gave that so far
abbrev pub run_of : TraceFile → TraceWrites → WritesRun
run_of file found = record { records = file.records; refusal = file.refusal; found = found }

-- A turn of the source is a turn of that work: where the program stands at a way through a trace, and its read gave
-- what the way's next turn reads, its turn is that turn.
abbrev pub RecordTurnIsNext : Type 0
RecordTurnIsNext =
    (way : Way WritesRun) (input : TurnInput) (file : TraceFile) (found : TraceWrites) (got : ℕ) (buffer : List ℕ)
    (result : RecordTurn) (buffer_after values : List ℕ)
    → StandsAt way (run_of file found) file.window buffer → ReadGave way input file.window got buffer
    → MakesRecordTurn file got buffer input.lent result buffer_after values
    → IsNextTurn taking_trace_writes (length buffer) way input
    (run_of result.file (with_given found result.next values)) result.file.window buffer_after [] result.done

-- what a run comes to at its end: its refusal, with the number of the record, or what the turns gave
abbrev pub end_of_run : WritesRun → Reply TraceWrites
end_of_run run =
    cond (is_trace_refusal run.refusal)
    (refused_at (number_or_0 trace_refusal_number run.refusal) (refused_number run.refusal run.records))
    (given run.found)

-- the work on a whole trace, to its end: the hub and the writes that the turns gave, or the refusal, are the trace's
pub record GivesWrites (trace : List ℕ) (end : Way WritesRun) : Type 0 where
  pub done : end.done ≡ true
  pub writes : end_of_run end.state ≡ trace_writes trace

-- However the bytes of a trace are read, into a buffer of any size that holds a record: the work ends within so many
-- turns, with the writes of the trace or its refusal.
abbrev pub TraceWritesHoweverCut : Type 0
TraceWritesHoweverCut =
    (trace : List ℕ) (size : ℕ) (inputs : List TurnInput) → AreBytes trace → length trace < 2 ^ 64
    → longest_record ≤ size → AllLend most_values inputs → 2 * length trace + 1 ≤ length inputs
    → GivesWrites trace (all_turns taking_trace_writes size (way_from new_writes_run trace) inputs)
