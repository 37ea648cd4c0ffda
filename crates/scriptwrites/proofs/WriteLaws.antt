-- The write that a window gives is the next of those that are to come, so that however a script is read the work comes to the same.
-- Assumes nothing.
use mathlib.Core.Path.{◌≡◌, refl, sym, ap, ◌∙◌}
use mathlib.Core.Bool.{Bool, true, false, cond}
use mathlib.Core.List.{List, [], ◌∷◌, ◌++◌}
use mathlib.Core.Option.{Option}
use Prim.Native.Nat.{ℕ, zero, suc, ◌+◌, ◌%◌, ◌^◌, ◌≤◌}
use native.Mathlib.Numerals.{add-one}
use native.Mathlib.Omega.{arith}
use borrow.Author.Tests.{ne_eqb, not-true}
use lib.Dec.{eqb}
use lib.ListN.{length, drop, length-append, length-drop}
use lib.Seq.{drop-append-le}
use Rattle.laws.specs.Reply.{Reply, refused_at, refused_with, given, on_reply}
use Rattle.laws.specs.Buffers.{written}
use Rattle.laws.proofs.Absurd.{zero_not_one}
use Rattle.laws.proofs.Replies.{joined_none, joined_twice}
use Rattle.streams.specs.Streams.{way_from, TurnInput, all_turns, AllLend, Result, ByWindows}
use Rattle.streams.proofs.StreamLaws.{however_read}
use Rattle.registers.specs.Bursts.{RegisterWrite}
use Rattle.origins.specs.declared.NumberedWrite.{NumberedWrite}
use Rattle.origins.specs.NumberedWrites.{numbered_as}
use Rattle.script.specs.Grammar.{longest_script_line}
use Rattle.script.specs.Traces.{write_records}
use Rattle.script.specs.Reading.{rest_reply, parts_of}
use Rattle.script.specs.FirstLines.{LineWithCalls, first_line_reply}
use Rattle.script.proofs.FirstLineLaws.{first_given, not_zero}
use Rattle.scriptlines.specs.TakenLines.{LinesDone, LinesState, lines_state_at, may_take_next, may_take_line, after_line}
use Rattle.scriptlines.specs.TakenLines.{take_lines}
use Rattle.scriptlines.specs.ScriptFiles.{line_refused, no_lines_done, records_reply}
use Rattle.scriptlines.proofs.LineLaws.{same_next, put_then, LinesFit, by_line, tests, some_byte, by_first, lines_put, left_most, none_taken}
use Rattle.scriptlines.proofs.FileLaws.{fewer, put_end}
use Rattle.scriptwrites.specs.NumberedCalls.{numbered_from, numbered_calls}
use Rattle.scriptwrites.specs.ScriptWrites.{one_record, taken_to_call, write_taken, writes_given, write_numbers, NumbersTellWrites, taking_script_writes, ScriptWritesHoweverCut}
use Rattle.scriptwrites.proofs.NumberedCalls.{numbered_then, numbered_first}

-- the numbers of some writes, and of those after them
numbers_append : (a b : List NumberedWrite) → write_numbers (a ++ b) ≡ write_numbers a ++ write_numbers b
unfolding write_numbers
numbers_append [] b = refl
numbers_append (write ∷ a) b = ap (λ (l : List ℕ). write.number ∷ write.offset ∷ write.value ∷ l) (numbers_append a b)

numbers_joined : (a : List NumberedWrite) (later : Reply (List NumberedWrite))
    → on_reply write_numbers (on_reply (λ (l : List NumberedWrite). a ++ l) later) ≡ put_then (write_numbers a) (on_reply write_numbers later)
numbers_joined a (refused_with number detail) = refl
numbers_joined a (given later) = ap given (numbers_append a later)

pub numbers_tell_writes : NumbersTellWrites
unfolding write_numbers
numbers_tell_writes [] [] e = refl
numbers_tell_writes [] (write ∷ b) e = zero_not_one (cc)
numbers_tell_writes (write ∷ a) [] e = zero_not_one (cc)
numbers_tell_writes (write ∷ a) (other ∷ b) e = same (cc) (cc) (cc) (numbers_tell_writes a b (cc))
  where
    same : {number otherNumber offset otherOffset value otherValue : ℕ} {later others : List NumberedWrite} → number ≡ otherNumber → offset ≡ otherOffset
        → value ≡ otherValue → later ≡ others
        → record { number = number; offset = offset; value = value } ∷ later ≡ record { number = otherNumber; offset = otherOffset; value = otherValue } ∷ others
    same n o v l = cc

-- what is still to come, with those bytes of the file left
abbrev writes_to_come : LinesDone → List ℕ → Reply (List ℕ)
writes_to_come done bytes =
    cond (eqb done.refusal 0) (on_reply write_numbers (numbered_from (done.lines + 1) (parts_of bytes))) (refused_at done.refusal (done.lines + 1))

-- the state from which the lines of a window are taken
abbrev from_start : LinesDone → List ℕ → LinesState
from_start done left = lines_state_at done left one_record 0

-- the write that was taken is the next of what is to come, whatever follows the window in the file
abbrev FindsNext : List ℕ → LinesDone → List ℕ → LinesState → Type 0
FindsNext rest done left after =
    writes_to_come done (left ++ rest) ≡ put_then (write_numbers (writes_given (write_taken after))) (writes_to_come after.done (after.left ++ rest))

module _ (n : ℕ) (last : Bool) (rest : List ℕ) (done : LinesDone) (left : List ℕ) (ends : last ≡ true → rest ≡ [])
    (fit : LinesFit done (left ++ rest)) where
  none_found : FindsNext rest done left (from_start done left)
  unfolding write_numbers
  none_found = joined_none (writes_to_come done (left ++ rest))

  module _ (may : may_take_line last (from_start done left) ≡ true) where
    -- what is to come, by the next line
    by_next : {reply : Reply LineWithCalls} → first_line_reply left ≡ reply
        → writes_to_come done (left ++ rest) ≡ on_reply write_numbers (numbered_then (done.lines + 1) (left ++ rest) reply)
    by_next e =
        let tested = tests last (from_start done left) may in
        rw tested.0
        (ap (on_reply write_numbers)
        (numbered_first (left ++ rest) (omega (arith, some_byte last (from_start done left) may, length-append left rest)) (done.lines + 1)
        ∙ ap (numbered_then (done.lines + 1) (left ++ rest)) (same_next last left rest ends tested.1 ∙ e)))

    -- a line that is refused
    wrong_line : (number : ℕ) (detail : Option ℕ) → first_line_reply left ≡ refused_with number detail
        → FindsNext rest done left (take_lines n last (after_line (from_start done left) (refused_with number detail)))
    unfolding may_take_next write_numbers
    wrong_line number detail e =
        let some = not_zero left e in
        let not : eqb number 0 ≡ false = ne_eqb number 0 (λ z. omega arith) in
        let stays = none_taken n last (after_line (from_start done left) (refused_with number detail)) (rw not) in
        rw (stays) (by_next e ∙ rw not)

    module _ (count : ℕ) (calls : List RegisterWrite) (taken : first_line_reply left ≡ given (record { count = count; calls = calls })) where
      -- how far the script is read after the line, and its count of lines
      abbrev line_done : LinesDone
      line_done = record { lines = (done.lines + 1) % 2 ^ 64; refusal = 0 }

      counted : (done.lines + 1) % 2 ^ 64 ≡ done.lines + 1
      counted = let within = (first_given left taken).0 in omega (arith, length-append left rest)

      line_fits : LinesFit line_done (drop (count + 1) left ++ rest)
      line_fits =
          let within = (first_given left taken).0 in
          rw counted (omega (arith, length-append left rest, length-append (drop (count + 1) left) rest, length-drop (count + 1) left))

      -- a line that is taken: its writes, and those that are to come after it
      right_line : writes_to_come done (left ++ rest)
          ≡ put_then (write_numbers (numbered_as line_done.lines calls)) (writes_to_come line_done (drop (count + 1) left ++ rest))
      right_line =
          let within = (first_given left taken).0 in
          by_next taken
          ∙ numbers_joined (numbered_as (done.lines + 1) calls) (numbered_from (suc (done.lines + 1)) (parts_of (drop (count + 1) (left ++ rest))))
          ∙ rw (counted, add-one (done.lines + 1), drop-append-le (count + 1) left rest (omega arith))

      -- the lines after it, where it has no call; one with a call is the last
      line_taken : length calls ≤ 1
          → FindsNext rest line_done (drop (count + 1) left) (take_lines n last (from_start line_done (drop (count + 1) left)))
          → FindsNext rest done left (take_lines n last (after_line (from_start done left) (given (record { count = count; calls = calls }))))
      unfolding write_records written write_numbers numbered_as may_take_next
      line_taken few next = go calls few right_line
        where
          go : (found : List RegisterWrite) → length found ≤ 1
              → writes_to_come done (left ++ rest)
              ≡ put_then (write_numbers (numbered_as line_done.lines found)) (writes_to_come line_done (drop (count + 1) left ++ rest))
              → FindsNext rest done left (take_lines n last (after_line (from_start done left) (given (record { count = count; calls = found }))))
          go [] h same = same ∙ sym (joined_none (writes_to_come line_done (drop (count + 1) left ++ rest))) ∙ next
          go (call ∷ []) h same =
              rw (none_taken n last (after_line (from_start done left) (given (record { count = count; calls = call ∷ [] }))) refl) same
          go (call ∷ other ∷ found) h same = absurd (omega arith)

finds_next : (n : ℕ) (last : Bool) (rest : List ℕ) (done : LinesDone) (left : List ℕ) → (last ≡ true → rest ≡ []) → LinesFit done (left ++ rest)
    → FindsNext rest done left (take_lines n last (from_start done left))
unfolding take_lines
finds_next zero last rest done left ends fit = none_found zero last rest done left ends fit
finds_next (suc n) last rest done left ends fit =
    by_first (FindsNext rest done left) n last (from_start done left)
    (λ may.
    by_line (λ s. FindsNext rest done left (take_lines n last s)) (from_start done left) (wrong_line n last rest done left ends fit may)
    (λ line e.
    line_taken n last rest done left ends fit may line.count line.calls e (first_given left e).1
    (finds_next n last rest (line_done n last rest done left ends fit may line.count line.calls e) (drop (line.count + 1) left) ends
    (line_fits n last rest done left ends fit may line.count line.calls e))))
    (λ e. none_found n last rest done left ends fit)

-- what the work comes to
abbrev writes_result : Result LinesDone (Reply (List ℕ))
writes_result = record { to_come = writes_to_come; after = put_then; end = λ done. records_reply done [] }

-- where no byte is to come, or a line was refused, there is no write
none_left_lem : (done : LinesDone) → writes_to_come done [] ≡ records_reply done []
unfolding parts_of numbered_from rest_reply numbered_as write_numbers
none_left_lem done = refl

refused_left : (done : LinesDone) (bytes : List ℕ) → line_refused done ≡ true → writes_to_come done bytes ≡ records_reply done []
refused_left done bytes e = rw (not-true (eqb done.refusal 0) e)

by_windows : ByWindows taking_script_writes writes_result LinesFit (longest_script_line + 1) 0
by_windows =
    record {
      joined = λ a b r. sym (joined_twice a b r);
      nothing = λ r. sym (joined_none r);
      at_end = none_left_lem;
      next = λ last done bytes lent rest ends room fit.
          let after = taken_to_call last done bytes in (
            finds_next (length bytes) last rest done bytes ends fit,
            (lines_put (length bytes) last rest (from_start done bytes) ends (omega arith) fit).fits,
            refused_left after.done (after.left ++ rest),
          );
      most = λ last done bytes lent. left_most (length bytes) last (from_start done bytes);
      less = λ last done bytes lent rest room fit one long none. fewer last done bytes one_record (omega arith) one long none;
    }

-- every buffer has room for nothing
lend_none : (inputs : List TurnInput) → AllLend 0 inputs
lend_none [] = tt
lend_none (input ∷ inputs) = (omega arith, lend_none inputs)

pub script_writes_however_cut : ScriptWritesHoweverCut
unfolding numbered_calls
script_writes_however_cut text size inputs small holds few =
    let end = however_read LinesDone (Reply (List ℕ)) taking_script_writes writes_result LinesFit (longest_script_line + 1) 0 by_windows no_lines_done text size inputs
    (omega arith) (omega arith) (omega arith) (lend_none inputs) few in
    let way = all_turns taking_script_writes size (way_from no_lines_done text) inputs in
    record { done = end.0; writes = sym (put_end way.state way.put) ∙ end.1 }
