-- A script of any size, turn by turn. However its bytes are read, the work on it ends, and the records put out are
-- those of the whole text, or the refusal is the text's.
-- Assumes nothing.
use Rattle.std.specs.Prelude.{◌≡◌, ℕ, ◌+◌, ◌*◌, ◌^◌, ◌<◌, ◌≤◌, Bool, true, cond, not, None, List, ◌++◌, length, take}
use Rattle.std.specs.Prelude.{◌==◌}
use Rattle.laws.specs.Reply.{Reply, refused_at, given, on_reply, and_then}
use Rattle.laws.specs.Buffers.{written, if_room}
use Rattle.registers.specs.declared.power_up.PowerUp.{PowerUp}
use Rattle.hub.specs.Hubs.{is_hub_address}
use Rattle.streams.specs.Streams.{new_window, after_read, nothing_left, Work, Way, way_from, TurnInput, all_turns}
use Rattle.streams.specs.Streams.{AllLend}
use Rattle.streams.specs.Streams.{StandsAt, ReadGave, IsNextTurn}
use Rattle.trace.specs.Framing.{record_bytes}
use Rattle.trace.specs.Records.{hub_data}
use Rattle.script.specs.Grammar.{longest_script_line}
use Rattle.script.specs.Traces.{write_records}
use Rattle.script.specs.Reading.{script_calls, script_trace}
use Rattle.scriptlines.specs.declared.ScriptFile.{ScriptFile}
use Rattle.scriptlines.specs.declared.ScriptTurn.{ScriptTurn}
use Rattle.scriptlines.specs.TakenLines.{LinesDone, done_of, LinesState, lines_state_at, record_room, take_lines}

abbrev pub new_script_file : ScriptFile
new_script_file = record { run = record { lines = 0; refusal = None }; window = new_window }

-- the bytes of a window, whose lines are taken from its start
abbrev pub window_taken : Bool → LinesDone → List ℕ → List ℕ → LinesState
window_taken last done bytes out = take_lines (length bytes) last (lines_state_at done bytes out 0)

-- a line was refused
abbrev pub line_refused : LinesDone → Bool
line_refused done = not (done.refusal == 0)

-- The lines were taken; what is left of the bytes stands at the start of the buffer, and the rest of the buffer stays.
pub record ScriptTurnMade (last : Bool) (after : LinesState) (buffer : List ℕ) (result : ScriptTurn)
    (buffer_after out : List ℕ) : Type 0 where
  pub run : done_of result.file.run ≡ after.done
  pub window : result.file.window ≡ record { held = length after.left; last = last }
  pub left : buffer_after ≡ written buffer 0 after.left
  pub fits : length after.left ≤ length buffer
  pub records : out ≡ after.out
  pub end : result.end ≡ after.at
  pub inside : after.at ≤ length out
  pub done : result.done ≡ nothing_left (line_refused after.done) last (length after.left)

-- a turn takes the lines of the bytes that the window holds after the read
abbrev pub MakesScriptTurn : ScriptFile → ℕ → List ℕ → List ℕ → ScriptTurn → List ℕ → List ℕ → Type 0
MakesScriptTurn file got buffer out result buffer_after outAfter =
    let window = after_read file.window got (length buffer) in
    let after = window_taken window.last (done_of file.run) (take window.held buffer) out in
    ScriptTurnMade window.last after buffer result buffer_after outAfter

-- The same as work on a file (`streams`): the state is how far the script is read, and what is put out is the records.
abbrev pub taking_lines : Work LinesDone
taking_lines last done bytes lent =
    let after = window_taken last done bytes lent in
    record {
      state = after.done;
      left = after.left;
      put = take after.at after.out;
      over = line_refused after.done;
    }

-- A turn of the source is a turn of that work: where the program stands at a way through a script, and its read gave
-- what the way's next turn reads, its turn is that turn.
abbrev pub ScriptTurnIsNext : Type 0
ScriptTurnIsNext =
    (way : Way LinesDone) (input : TurnInput) (file : ScriptFile) (got : ℕ) (buffer : List ℕ) (result : ScriptTurn)
    (buffer_after outAfter : List ℕ)
    → StandsAt way (done_of file.run) file.window buffer → ReadGave way input file.window got buffer
    → MakesScriptTurn file got buffer input.lent result buffer_after outAfter
    → IsNextTurn taking_lines (length buffer) way input
    (done_of result.file.run) result.file.window buffer_after (take result.end outAfter) result.done

abbrev pub no_lines_done : LinesDone
no_lines_done = record { lines = 0; refusal = 0 }

-- what the work comes to: the records that were put out, or the refusal with the number of its line
abbrev pub records_reply : LinesDone → List ℕ → Reply (List ℕ)
records_reply done put = cond (done.refusal == 0) (given put) (refused_at done.refusal (done.lines + 1))

-- The work on the whole text, to its end: what it comes to is the records of the text's calls, or the text's refusal.
-- After the hub record that is the trace of the text, in a buffer of any size.
pub record TakesScript (text : List ℕ) (end : Way LinesDone) : Type 0 where
  pub done : end.done ≡ true
  pub records : records_reply end.state end.put ≡ on_reply write_records (script_calls text)
  pub trace : (address : ℕ) (start : PowerUp) (size : ℕ) → is_hub_address address ≡ true
      → and_then (records_reply end.state end.put)
      (λ put. if_room size 0 (record_bytes 0x00 (hub_data address start) ++ put))
      ≡ script_trace address start text size

-- However the bytes of a script are read, into a buffer of any size over that of a line: the work ends within so many
-- turns, and comes to what the whole text comes to.
abbrev pub ScriptHoweverCut : Type 0
ScriptHoweverCut =
    (text : List ℕ) (size : ℕ) (inputs : List TurnInput) → length text < 2 ^ 64
    → longest_script_line < size → AllLend record_room inputs → 2 * length text + 1 ≤ length inputs
    → TakesScript text (all_turns taking_lines size (way_from no_lines_done text) inputs)
