-- Taking the lines of a script may be done window by window, so that however it is read the work comes to the same.
-- Assumes nothing.
use Rattle.std.proofs.Common.{◌≡◌, ℕ, ◌+◌, ◌<◌, ◌≤◌, Bool, true, false, cond, not, eqb, List, [], ◌++◌, length, take, sym, refl, ap, ◌∙◌, append-nil, zero-add, arith, lt-ltb, ne_eqb, le-leb}
use borrow.Author.Tests.{not-true, not-false}
use Rattle.laws.specs.Reply.{Reply, refused_at, refused_with, given, on_reply, and_then}
use Rattle.laws.specs.Buffers.{if_room}
use Rattle.laws.proofs.Replies.{joined_none, joined_twice}
use Rattle.laws.proofs.Buffers.{read_written}
use Rattle.streams.specs.Streams.{way_from, all_turns, Result, ByWindows}
use Rattle.streams.proofs.StreamLaws.{however_read}
use Rattle.trace.specs.Framing.{record_bytes}
use Rattle.trace.specs.Records.{hub_data}
use Rattle.registers.specs.Bursts.{RegisterWrite}
use Rattle.registers.specs.declared.power_up.PowerUp.{PowerUp}
use Rattle.script.specs.Grammar.{longest_script_line}
use Rattle.script.specs.Traces.{write_records, trace_of}
use Rattle.script.specs.Reading.{rest_reply, parts_of, calls_from, script_calls, trace_if_room, script_trace}
use Rattle.scriptlines.specs.TakenLines.{LinesDone, LinesState, lines_state_at, record_room, may_take_next}
use Rattle.scriptlines.specs.TakenLines.{may_take_line}
use Rattle.scriptlines.specs.ScriptFiles.{window_taken, line_refused, taking_lines, no_lines_done, records_reply, ScriptHoweverCut}
use Rattle.scriptlines.proofs.LineLaws.{shows, to_come, put_then, LinesFit, PutsNext, lines_put, left_most, left_less, none_taken}

-- what the work comes to
abbrev lines_result : Result LinesDone (Reply (List ℕ))
lines_result = record { to_come = to_come; after = put_then; end = λ done. records_reply done [] }

-- where no byte is to come, or a line was refused, nothing is to be put out
none_left_lem : (done : LinesDone) → to_come done [] ≡ records_reply done []
unfolding parts_of calls_from rest_reply write_records
none_left_lem done = refl

refused_left : (done : LinesDone) (bytes : List ℕ) → line_refused done ≡ true → to_come done bytes ≡ records_reply done []
refused_left done bytes e = rw (not-true (eqb done.refusal 0) e)

-- what was put from the start of a buffer
put_records : (rest : List ℕ) (before after : LinesState) (puts : PutsNext rest before after) → before.at ≡ 0 → take after.at after.out ≡ puts.records
put_records rest before after puts start =
    rw (puts.stored, puts.place, start, zero-add (length puts.records))
    (read_written before.out 0 puts.records (omega (arith, puts.place, puts.inside)))

module _ (last : Bool) (done : LinesDone) (bytes lent : List ℕ) (room : record_room ≤ length lent) where
  abbrev before : LinesState
  before = lines_state_at done bytes lent 0

  abbrev after : LinesState
  after = window_taken last done bytes lent

  next_window : (rest : List ℕ) → (last ≡ true → rest ≡ []) → LinesFit done (bytes ++ rest)
      → (to_come done (bytes ++ rest) ≡ put_then (take after.at after.out) (to_come after.done (after.left ++ rest)))
      × LinesFit after.done (after.left ++ rest)
      × (line_refused after.done ≡ true → to_come after.done (after.left ++ rest) ≡ records_reply after.done [])
  next_window rest ends fit =
      let puts = lines_put (length bytes) last rest before ends (omega arith) fit in
      (rw (put_records rest before after puts refl) puts.same, puts.fits, refused_left after.done (after.left ++ rest))

  -- a line is taken where none was refused and the window shows one
  may_take_line_lem : line_refused done ≡ false → shows last bytes ≡ true → may_take_line last before ≡ true
  unfolding may_take_next
  may_take_line_lem none shown = rw (not-false (eqb done.refusal 0) none, le-leb (0 + record_room) (length lent) (omega arith), shown)

  -- where none is refused after the window, none was before
  none_before : line_refused after.done ≡ false → line_refused done ≡ false
  unfolding may_take_next
  none_before none = go (eqb done.refusal 0) refl
    where
      go : (b : Bool) → eqb done.refusal 0 ≡ b → not b ≡ false
      go true e = refl
      go false e =
          let stays : after ≡ before = none_taken (length bytes) last before (rw e) in
          sym (ap (λ (s : LinesState). line_refused s.done) stays ∙ rw e) ∙ none

  enough : 1 ≤ length bytes → (last ≡ false → longest_script_line + 1 ≤ length bytes) → (b : Bool) → last ≡ b → shows b bytes ≡ true
  enough one long true e = ap not (ne_eqb (length bytes) 0 (λ z. absurd (omega arith)))
  enough one long false e = let over = long e in rw (lt-ltb longest_script_line (length bytes) (omega arith))

  pub fewer : 1 ≤ length bytes → (last ≡ false → longest_script_line + 1 ≤ length bytes) → line_refused after.done ≡ false
      → length after.left < length bytes
  fewer one long none =
      left_less (length bytes) last before (omega arith) (may_take_line_lem (none_before none) (enough one long last refl))
      (not-false (eqb after.done.refusal 0) none)

by_windows : ByWindows taking_lines lines_result LinesFit (longest_script_line + 1) record_room
by_windows =
    record {
      joined = λ a b r. sym (joined_twice a b r);
      nothing = λ r. sym (joined_none r);
      at_end = none_left_lem;
      next = λ last done bytes lent rest ends room fit. next_window last done bytes lent room rest ends fit;
      most = λ last done bytes lent. left_most (length bytes) last (lines_state_at done bytes lent 0);
      less = λ last done bytes lent rest room fit one long none. fewer last done bytes lent room one long none;
    }

-- the records that were put out before the end
pub put_end : (done : LinesDone) (put : List ℕ) → put_then put (records_reply done []) ≡ records_reply done put
put_end done put = go (eqb done.refusal 0)
  where
    go : (b : Bool) → let refusal = refused_at done.refusal (done.lines + 1) in put_then put (cond b (given []) refusal) ≡ cond b (given put) refusal
    go true = ap given (append-nil put)
    go false = refl

-- the records of calls after the hub record are their trace
trace_made : (address : ℕ) (start : PowerUp) (size : ℕ) (calls : Reply (List RegisterWrite))
    → and_then (on_reply write_records calls) (λ put. if_room size 0 (record_bytes 0x00 (hub_data address start) ++ put))
    ≡ trace_if_room address start size calls
unfolding trace_of
trace_made address start size (refused_with number detail) = refl
trace_made address start size (given calls) = refl

pub script_however_cut : ScriptHoweverCut
unfolding script_calls script_trace
script_however_cut text size inputs small holds lend few =
    let end = however_read LinesDone (Reply (List ℕ)) taking_lines lines_result LinesFit (longest_script_line + 1) record_room by_windows no_lines_done text size inputs
    (omega arith) (omega arith) (omega arith) lend few in
    let way = all_turns taking_lines size (way_from no_lines_done text) inputs in
    let records : records_reply way.state way.put ≡ on_reply write_records (script_calls text) = sym (put_end way.state way.put) ∙ end.1 in
    record { done = end.0; records = records; trace = λ address start room allowed. rw (records, allowed) (trace_made address start room (script_calls text)) }
