-- A trace as its text, turn by turn: however the bytes of the trace are read, the work ends, and its text is that of
-- the trace, or it is refused as the trace is.
-- Assumes nothing.
use Rattle.std.specs.Prelude.{◌≡◌, ℕ, ◌+◌, ◌*◌, ◌^◌, ◌<◌, ◌≤◌, Bool, true, cond, Option, Some, None, List, length, take}
use Rattle.laws.specs.Reply.{Reply, refused, given, on_reply}
use Rattle.laws.specs.Buffers.{written}
use Rattle.laws.specs.Elements.{AreBytes}
use Rattle.streams.specs.Streams.{new_window, after_read, nothing_left, Work, Way, way_from, TurnInput, all_turns}
use Rattle.streams.specs.Streams.{AllLend, number_or_0}
use Rattle.streams.specs.Streams.{StandsAt, ReadGave, IsNextTurn}
use Rattle.trace.specs.Framing.{longest_record}
use Rattle.listing.specs.Listing.{calls_text, trace_calls, longest_text}
use Rattle.listing.specs.declared.TextRefusal.{TextRefusal}
use Rattle.listing.specs.declared.TextRefusal.TheVariants.{NoRecord}
use Rattle.listing.specs.Refusals.{text_refusal_number}
use Rattle.tracetext.specs.declared.TextRun.{TextRun}
use Rattle.tracetext.specs.declared.TextFile.{TextFile}
use Rattle.tracetext.specs.declared.TextTurn.{TextTurn}
use Rattle.tracetext.specs.TextWindows.{is_text_refusal, new_text_run, is_first_record}
use Rattle.tracetext.specs.TextWindows.{ListState, list_state_at, list_window}

abbrev pub new_text_file : TextFile
new_text_file = record { run = new_text_run; window = new_window }

-- the bytes of a window, listed from the start of a buffer
abbrev pub window_listed : Bool → TextRun → List ℕ → List ℕ → ListState
window_listed last run bytes out = list_window (length bytes) last (list_state_at run bytes out 0)

-- The bytes were listed; what is left of them stands at the start of their buffer, whose rest stays.
pub record TextTurnMade (last : Bool) (after : ListState) (buffer : List ℕ)
    (result : TextTurn) (buffer_after out : List ℕ) : Type 0 where
  pub run : result.file.run ≡ after.run
  pub window : result.file.window ≡ record { held = length after.left; last = last }
  pub left : buffer_after ≡ written buffer 0 after.left
  pub fits : length after.left ≤ length buffer
  pub text : out ≡ after.out
  pub end : result.end ≡ after.at
  pub inside : after.at ≤ length out
  pub done : result.done ≡ nothing_left (is_text_refusal after.run.refusal) last (length after.left)

-- a turn lists the bytes that the window holds after the read
abbrev pub MakesTextTurn : TextFile → ℕ → List ℕ → List ℕ → TextTurn → List ℕ → List ℕ → Type 0
MakesTextTurn file got buffer out result buffer_after outAfter =
    let window = after_read file.window got (length buffer) in
    TextTurnMade window.last (window_listed window.last file.run (take window.held buffer) out) buffer
    result buffer_after outAfter

-- The same as work on a file (`streams`): the state is the run, and what is put out is the text.
abbrev pub listing : Work TextRun
listing last run bytes lent =
    let after = window_listed last run bytes lent in
    record {
      state = after.run;
      left = after.left;
      put = take after.at after.out;
      over = is_text_refusal after.run.refusal;
    }

-- A turn of the source is a turn of that work: where the program stands at a way through a trace, and its read gave
-- what the way's next turn reads, its turn is that turn.
abbrev pub TextTurnIsNext : Type 0
TextTurnIsNext =
    (way : Way TextRun) (input : TurnInput) (file : TextFile) (got : ℕ) (buffer : List ℕ) (result : TextTurn)
    (buffer_after outAfter : List ℕ)
    → StandsAt way file.run file.window buffer → ReadGave way input file.window got buffer
    → MakesTextTurn file got buffer input.lent result buffer_after outAfter
    → IsNextTurn listing (length buffer) way input
    result.file.run result.file.window buffer_after (take result.end outAfter) result.done

-- the refusal at a trace's end; "13 (an empty trace too)": it has no first record
unfoldable pub end_refusal : TextRun → Option TextRefusal
end_refusal run = cond (is_text_refusal run.refusal) run.refusal (cond (is_first_record run) (Some NoRecord) None)

-- a refusal by its number or, where there is none, the reply
abbrev pub refused_or : Option TextRefusal → Reply (List ℕ) → Reply (List ℕ)
refused_or refusal reply = cond (is_text_refusal refusal) (refused (number_or_0 text_refusal_number refusal)) reply

-- the work on a whole trace, to its end: the text that was put out, or the refusal, is that of the trace
pub record ListsTrace (trace : List ℕ) (end : Way TextRun) : Type 0 where
  pub done : end.done ≡ true
  pub text : refused_or (end_refusal end.state) (given end.put) ≡ on_reply calls_text (trace_calls trace)

-- However the bytes of a trace are read, into a buffer of any size that holds a record: the work ends within so many
-- turns, with the text of the trace or its refusal (as `listing::to_text` gives them, for a text that has room).
abbrev pub TextHoweverCut : Type 0
TextHoweverCut =
    (trace : List ℕ) (size : ℕ) (inputs : List TurnInput) → AreBytes trace → length trace < 2 ^ 64
    → longest_record ≤ size → AllLend longest_text inputs → 2 * length trace + 1 ≤ length inputs
    → ListsTrace trace (all_turns listing size (way_from new_text_run trace) inputs)
