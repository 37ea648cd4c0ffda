-- The writes of a script of any size, turn by turn. However its bytes are read, the work on it ends, and the writes
-- that it gave are those of the whole text, with the numbers of their lines, or the refusal is the text's.
-- Assumes nothing.
use Rattle.std.specs.Prelude.{◌≡◌, Bool, true, cond, Option, Some, None, List, [], ◌∷◌, ℕ, ◌+◌, ◌*◌, ◌^◌, ◌≤◌, ◌<◌, eqb}
use Rattle.std.specs.Prelude.{length, get_or, take}
use Rattle.laws.specs.Reply.{on_reply}
use Rattle.laws.specs.Buffers.{written}
use Rattle.streams.specs.Streams.{after_read, nothing_left, Work, Way, way_from, TurnInput, all_turns}
use Rattle.streams.specs.Streams.{StandsAt, ReadGave, IsNextTurn}
use Rattle.origins.specs.declared.NumberedWrite.{NumberedWrite}
use Rattle.script.specs.Grammar.{longest_script_line}
use Rattle.scriptlines.specs.declared.ScriptFile.{ScriptFile}
use Rattle.scriptlines.specs.TakenLines.{LinesDone, done_of, LinesState}
use Rattle.scriptlines.specs.ScriptFiles.{window_taken, line_refused, no_lines_done, records_reply}
use Rattle.scriptwrites.specs.declared.WriteTurn.{WriteTurn}
use Rattle.scriptwrites.specs.NumberedCalls.{numbered_calls}

-- the buffer that is lent for records: it has room for one write record, so no line is taken after a call
abbrev pub one_record : List ℕ
one_record = 0 ∷ 0 ∷ 0 ∷ 0 ∷ 0 ∷ 0 ∷ []

-- the lines of a window are taken up to and with the next call
abbrev pub taken_to_call : Bool → LinesDone → List ℕ → LinesState
taken_to_call last done bytes = window_taken last done bytes one_record

-- The write in the record that was put, if there is one. A write record is 9A 64 01 02, the offset and the value.
abbrev pub write_in : ℕ → ℕ → List ℕ → Option NumberedWrite
write_in end number bytes =
    cond (eqb end 0) None (Some (record { number = number; offset = get_or bytes 4 0; value = get_or bytes 5 0 }))

-- the call's line is the last that was taken, so the count of lines is its number
abbrev pub write_taken : LinesState → Option NumberedWrite
write_taken after = write_in after.at after.done.lines after.out

-- The lines were taken; what is left of the bytes stands at the start of the buffer, and the rest of the buffer stays.
pub record WriteTurnMade (last : Bool) (after : LinesState) (buffer : List ℕ) (result : WriteTurn)
    (buffer_after : List ℕ) : Type 0 where
  pub run : done_of result.file.run ≡ after.done
  pub window : result.file.window ≡ record { held = length after.left; last = last }
  pub left : buffer_after ≡ written buffer 0 after.left
  pub fits : length after.left ≤ length buffer
  pub write : result.write ≡ write_taken after
  pub done : result.done ≡ nothing_left (line_refused after.done) last (length after.left)

-- a turn takes the lines, up to and with the next call, of the bytes that the window holds after the read
abbrev pub MakesWriteTurn : ScriptFile → ℕ → List ℕ → WriteTurn → List ℕ → Type 0
MakesWriteTurn file got buffer result buffer_after =
    let window = after_read file.window got (length buffer) in
    let after = taken_to_call window.last (done_of file.run) (take window.held buffer) in
    WriteTurnMade window.last after buffer result buffer_after

-- the write that a turn gave, as a list
abbrev pub writes_given : Option NumberedWrite → List NumberedWrite
writes_given None = []
writes_given (Some write) = write ∷ []

-- What work on a file puts out is numbers: three for each write.
unfoldable pub write_numbers : List NumberedWrite → List ℕ
write_numbers [] = []
write_numbers (write ∷ writes) = write.number ∷ write.offset ∷ write.value ∷ write_numbers writes

-- A law: these numbers tell the writes.
abbrev pub NumbersTellWrites : Type 0
NumbersTellWrites = (a b : List NumberedWrite) → write_numbers a ≡ write_numbers b → a ≡ b

-- The same as work on a file (`streams`): the state is how far the script is read, and what is put out is the write.
-- (What the work is lent is not used.)
abbrev pub taking_script_writes : Work LinesDone
taking_script_writes last done bytes lent =
    let after = taken_to_call last done bytes in
    record {
      state = after.done;
      left = after.left;
      put = write_numbers (writes_given (write_taken after));
      over = line_refused after.done;
    }

-- A turn of the source is a turn of that work: where the program stands at a way through a script, and its read gave
-- what the way's next turn reads, its turn is that turn.
abbrev pub WriteTurnIsNext : Type 0
WriteTurnIsNext =
    (way : Way LinesDone) (input : TurnInput) (file : ScriptFile) (got : ℕ) (buffer : List ℕ) (result : WriteTurn)
    (buffer_after : List ℕ)
    → StandsAt way (done_of file.run) file.window buffer → ReadGave way input file.window got buffer
    → MakesWriteTurn file got buffer result buffer_after
    → IsNextTurn taking_script_writes (length buffer) way input
    (done_of result.file.run) result.file.window buffer_after
    (write_numbers (writes_given result.write)) result.done

-- The work on the whole text, to its end: the writes that it gave, one after the other, are the text's, each with the
-- number of its line; or the refusal is the text's, with its line.
pub record TakesWrites (text : List ℕ) (end : Way LinesDone) : Type 0 where
  pub done : end.done ≡ true
  pub writes : records_reply end.state end.put ≡ on_reply write_numbers (numbered_calls text)

-- However the bytes of a script are read, into a buffer of any size over that of a line: the work ends within so many
-- turns, and comes to what the whole text comes to.
abbrev pub ScriptWritesHoweverCut : Type 0
ScriptWritesHoweverCut =
    (text : List ℕ) (size : ℕ) (inputs : List TurnInput) → length text < 2 ^ 64
    → longest_script_line < size → 2 * length text + 1 ≤ length inputs
    → TakesWrites text (all_turns taking_script_writes size (way_from no_lines_done text) inputs)
