-- How the source puts the texts of a window's records one after the other: L1, for a trace of any size.
-- Assumes nothing.
use Rattle.std.specs.Prelude.{◌≡◌, ℕ, zero, suc, ◌+◌, ◌%◌, ◌^◌, ◌≤◌, Bool, cond, not, ◌&&◌, Option, Some, None, is_some}
use Rattle.std.specs.Prelude.{List, length, drop, ◌==◌}
use Rattle.laws.specs.Reply.{Reply, refused_with, given}
use Rattle.laws.specs.Buffers.{written, has_room}
use Rattle.registers.specs.Bursts.{RegisterWrite}
use Rattle.trace.specs.Framing.{record_length, holds_record}
use Rattle.trace.specs.Records.{record_of}
use Rattle.listing.specs.Listing.{calls_text, record_calls, longest_text}
use Rattle.listing.specs.declared.TextRefusal.{TextRefusal}
use Rattle.listing.specs.declared.TextRefusal.TheVariants.{NoRecord, AddressOutOfRange, NoTextForm}
use Rattle.tracetext.specs.declared.TextRun.{TextRun}
use Rattle.tracetext.specs.declared.TextListed.{TextListed}

abbrev pub is_text_refusal : Option TextRefusal → Bool
is_text_refusal refusal = is_some refusal

-- the refusal with that number; for a record there are these three
abbrev pub refusal_of : ℕ → TextRefusal
refusal_of number = cond (number == 13) NoRecord (cond (number == 2) AddressOutOfRange NoTextForm)

abbrev pub new_text_run : TextRun
new_text_run = record { records = 0; refusal = None }

-- the number of the record after those that were passed (there are fewer than 2 ^ 64)
abbrev pub refused_record : TextRun → ℕ
refused_record run = (run.records + 1) % 2 ^ 64

abbrev pub is_first_record : TextRun → Bool
is_first_record run = run.records == 0

-- the calls of the next record
abbrev pub next_calls : TextRun → List ℕ → Reply (List RegisterWrite)
next_calls run left = record_calls (record_of (is_first_record run) left)

-- A window is being listed: the run, the bytes of the window that are left, and the lent buffer for text with the next
-- free place.
pub record ListState : Type 0 where
  pub run : TextRun
  pub left : List ℕ
  pub out : List ℕ
  pub at : ℕ

abbrev pub list_state_at : TextRun → List ℕ → List ℕ → ℕ → ListState
list_state_at run left out at = record { run = run; left = left; out = out; at = at }

-- what came of a window, and the lent buffer after it, as the definition has it
abbrev pub list_state_of : List ℕ → TextListed → List ℕ → ListState
list_state_of window taken out = list_state_at taken.run (drop taken.used window) out taken.next

-- There is a record to list: none was refused; the longest text has room; and the window holds a whole record or, at
-- the trace's end (`last`), any byte.
unfoldable pub may_list_next : TextRun → List ℕ → Bool → ℕ → ℕ → Bool
may_list_next run left last size at =
    not (is_text_refusal run.refusal) && has_room size at longest_text
    && cond last (not (length left == 0)) (holds_record left)

abbrev pub may_list : Bool → ListState → Bool
may_list last state = may_list_next state.run state.left last (length state.out) state.at

-- A record that is refused stays. Otherwise its text is put, and it is passed; the count of records has 64 bits.
abbrev pub list_calls : ListState → Reply (List RegisterWrite) → ListState
list_calls state (refused_with number detail) =
    record {
      run = record { records = state.run.records; refusal = Some (refusal_of number) };
      left = state.left;
      out = state.out;
      at = state.at;
    }
list_calls state (given calls) =
    record {
      run = record { records = (state.run.records + 1) % 2 ^ 64; refusal = None };
      left = drop (record_length state.left) state.left;
      out = written state.out state.at (calls_text calls);
      at = state.at + length (calls_text calls);
    }

-- one record
unfoldable pub list_one : ListState → ListState
list_one state = list_calls state (next_calls state.run state.left)

-- the window's records, at most n of them
unfoldable pub list_window : ℕ → Bool → ListState → ListState
list_window zero last state = state
list_window (suc n) last state = cond (may_list last state) (list_window n last (list_one state)) state

-- One record was listed, inside the window and inside the lent buffer.
pub record ListsOne (before : ListState) (taken : TextListed) (out : List ℕ) : Type 0 where
  pub state : list_state_of before.left taken out ≡ list_one before
  pub used : taken.used ≤ length before.left
  pub place : taken.next ≤ length out

-- A window was listed as far as it could be; the next free place stays inside the lent buffer.
pub record ListsWindow (last : Bool) (before : ListState) (taken : TextListed) (out : List ℕ) : Type 0 where
  pub state : list_state_of before.left taken out ≡ list_window (length before.left) last before
  pub used : taken.used ≤ length before.left
  pub place : before.at ≤ length before.out → taken.next ≤ length out
