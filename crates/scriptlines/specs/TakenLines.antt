-- How the source takes the lines of a window of a script. (What that makes of a whole script: `ScriptFiles`.)
-- Assumes nothing.
use Rattle.std.specs.Prelude.{◌≡◌, ℕ, zero, suc, ◌+◌, ◌%◌, ◌^◌, ◌≤◌, Bool, cond, not, ◌&&◌, List, length, drop, ◌==◌}
use Rattle.laws.specs.Reply.{Reply, refused_with, given}
use Rattle.laws.specs.Buffers.{written, has_room}
use Rattle.streams.specs.Streams.{number_or_0}
use Rattle.script.specs.Refusals.{line_refusal_number}
use Rattle.script.specs.Traces.{write_records}
use Rattle.script.specs.FirstLines.{holds_script_line, LineWithCalls, first_line_reply}
use Rattle.scriptlines.specs.declared.ScriptRun.{ScriptRun}
use Rattle.scriptlines.specs.declared.LinesTaken.{LinesTaken}

-- the number of the line after those that were taken (there are fewer than 2 ^ 64)
abbrev pub refused_line : ScriptRun → ℕ
refused_line run = (run.lines + 1) % 2 ^ 64

-- How far a script is read: how many lines were taken, and the number of the refusal of the next one, 0 for none.
pub record LinesDone : Type 0 where
  pub lines : ℕ
  pub refusal : ℕ

abbrev pub done_of : ScriptRun → LinesDone
done_of run = record { lines = run.lines; refusal = number_or_0 line_refusal_number run.refusal }

-- A window is being read: how far the script is read, the bytes of the window that are left, and the lent buffer for
-- records with the next free place.
pub record LinesState : Type 0 where
  pub done : LinesDone
  pub left : List ℕ
  pub out : List ℕ
  pub at : ℕ

abbrev pub lines_state_at : LinesDone → List ℕ → List ℕ → ℕ → LinesState
lines_state_at done left out at = record { done = done; left = left; out = out; at = at }

-- what came of a window, and the lent buffer after it, as the definition has it
abbrev pub lines_state_of : List ℕ → LinesTaken → List ℕ → LinesState
lines_state_of window taken out = lines_state_at (done_of taken.run) (drop taken.used window) out taken.next

-- a line has at most one record, of 6 bytes
abbrev pub record_room : ℕ
record_room = 6

-- There is a line to take: none was refused; a record has room; and the window shows what the line comes to or, at the
-- file's end (`last`), has any byte.
unfoldable pub may_take_next : LinesDone → List ℕ → Bool → ℕ → ℕ → Bool
may_take_next done left last size at =
    (done.refusal == 0) && has_room size at record_room && cond last (not (length left == 0)) (holds_script_line left)

abbrev pub may_take_line : Bool → LinesState → Bool
may_take_line last state = may_take_next state.done state.left last (length state.out) state.at

-- A line that is refused stays. Of one that is taken the records are put; the count of lines has 64 bits.
abbrev pub after_line : LinesState → Reply LineWithCalls → LinesState
after_line state (refused_with number detail) =
    lines_state_at (record { lines = state.done.lines; refusal = number }) state.left state.out state.at
after_line state (given line) =
    let records = write_records line.calls in
    lines_state_at (record { lines = (state.done.lines + 1) % 2 ^ 64; refusal = 0 })
    (drop (line.count + 1) state.left) (written state.out state.at records) (state.at + length records)

-- one line
unfoldable pub take_line : LinesState → LinesState
take_line state = after_line state (first_line_reply state.left)

-- the window's lines, at most n of them
unfoldable pub take_lines : ℕ → Bool → LinesState → LinesState
take_lines zero last state = state
take_lines (suc n) last state = cond (may_take_line last state) (take_lines n last (take_line state)) state

-- The lines of a window were taken as far as they could be; the next free place stays inside the lent buffer.
pub record TakesLines (last : Bool) (before : LinesState) (taken : LinesTaken) (out : List ℕ) : Type 0 where
  pub state : lines_state_of before.left taken out ≡ take_lines (length before.left) last before
  pub used : taken.used ≤ length before.left
  pub place : before.at ≤ length before.out → taken.next ≤ length out
