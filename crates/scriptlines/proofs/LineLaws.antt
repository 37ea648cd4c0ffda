-- What the lines of a window put out is the next part of what is to come, and how the source's loop gets through it.
-- Assumes nothing.
use Rattle.std.proofs.Common.{◌≡◌, ℕ, zero, suc, ◌+◌, ◌%◌, ◌^◌, ◌<◌, ◌≤◌, Bool, true, false, cond, not, ◌&&◌, eqb, List, [], ◌++◌, length, drop, sym, refl, ap, ◌∙◌, append-nil, add-zero, add-one, arith, length-append, length-drop, ne_eqb, eqb-true, leb-true}
use mathlib.Core.Option.{Option as Detail}
use Rattle.std.specs.Prelude.{Option, Some, None, is_some}
use borrow.Author.Tests.{eqb-false, not-true}
use lib.Seq.{drop-append-le}
use Rattle.laws.specs.Reply.{Reply, refused, refused_at, refused_with, given, on_reply}
use Rattle.laws.specs.Buffers.{written, has_room}
use Rattle.laws.proofs.Bools.{both}
use Rattle.laws.proofs.Replies.{joined_none, joined_twice}
use Rattle.laws.proofs.Buffers.{written_nil, written_more, length-written}
use Rattle.buffers.specs.Putting.{Puts}
use Rattle.buffers.proofs.PutLaws.{whole_buffer, whole_place}
use Rattle.registers.specs.Bursts.{RegisterWrite}
use Rattle.streams.specs.Streams.{number_or_0}
use Rattle.script.specs.declared.LineRefusal.{LineRefusal}
use Rattle.script.specs.Refusals.{line_refusal_number}
use Rattle.script.specs.Traces.{write_records}
use Rattle.script.specs.Reading.{joined_to, parts_of, calls_from}
use Rattle.script.specs.FirstLines.{holds_script_line, LineWithCalls, first_line_reply}
use Rattle.script.proofs.TraceLaws.{writes_append, writes_length}
use Rattle.script.proofs.FirstLineLaws.{line_then, calls_first, first_given, not_zero, holds_some, same_first}
use Rattle.scriptlines.specs.TakenLines.{LinesDone, LinesState, lines_state_at, record_room, may_take_next, may_take_line, after_line, take_line, take_lines}

-- no refusal has the number 0
pub none_refused : (refusal : Option LineRefusal) → eqb (number_or_0 line_refusal_number refusal) 0 ≡ not (is_some refusal)
none_refused None = refl
none_refused (Some LineRefusal.TooLong) = refl
none_refused (Some LineRefusal.OtherShape) = refl

-- a window shows what its next line comes to or, at the file's end, any byte
abbrev pub shows : Bool → List ℕ → Bool
shows last left = cond last (not (eqb (length left) 0)) (holds_script_line left)

-- it has a byte left then
some_left : (last : Bool) (left : List ℕ) → shows last left ≡ true → 1 ≤ length left
some_left true left h = let ne = eqb-false (length left) 0 (not-true (eqb (length left) 0) h) in omega arith
some_left false left h = holds_some left h

-- and its next line is the file's, whatever follows the window
pub same_next : (last : Bool) (left rest : List ℕ) → (last ≡ true → rest ≡ []) → shows last left ≡ true → first_line_reply (left ++ rest) ≡ first_line_reply left
same_next true left rest ends h = rw (ends refl, append-nil left)
same_next false left rest ends h = same_first left rest h

-- What is still to come, with those bytes of the file left; and after some records were put out.
abbrev pub to_come : LinesDone → List ℕ → Reply (List ℕ)
to_come done bytes =
    cond (eqb done.refusal 0) (on_reply write_records (calls_from (done.lines + 1) (parts_of bytes))) (refused_at done.refusal (done.lines + 1))

abbrev pub put_then : List ℕ → Reply (List ℕ) → Reply (List ℕ)
put_then put later = on_reply (λ (l : List ℕ). put ++ l) later

-- the lines are counted right: there are fewer than 2 ^ 64, since there are fewer bytes
abbrev pub LinesFit : LinesDone → List ℕ → Type 0
LinesFit done bytes = done.lines + length bytes < 2 ^ 64

-- What a window puts out is the next of what is to come, whatever follows the window in the file.
pub record PutsNext (rest : List ℕ) (before after : LinesState) : Type 0 where
  pub records : List ℕ
  pub stored : after.out ≡ written before.out before.at records
  pub place : after.at ≡ before.at + length records
  pub inside : after.at ≤ length before.out
  pub same : to_come before.done (before.left ++ rest) ≡ put_then records (to_come after.done (after.left ++ rest))
  pub fits : LinesFit after.done (after.left ++ rest)

-- the records of some calls, and of those after them
records_joined : (here : List RegisterWrite) (later : Reply (List RegisterWrite))
    → on_reply write_records (joined_to here later) ≡ put_then (write_records here) (on_reply write_records later)
records_joined here (refused_with number detail) = refl
records_joined here (given later) = ap given (writes_append here later)

-- one line, by what it comes to
pub by_line : (P : LinesState → Type 0) (state : LinesState)
    → ((number : ℕ) (detail : Detail ℕ) → first_line_reply state.left ≡ refused_with number detail → P (after_line state (refused_with number detail)))
    → ((line : LineWithCalls) → first_line_reply state.left ≡ given line → P (after_line state (given line))) → P (take_line state)
unfolding take_line
by_line P state wrong right = go (first_line_reply state.left) refl
  where
    go : (reply : Reply LineWithCalls) → first_line_reply state.left ≡ reply → P (after_line state reply)
    go (refused_with number detail) e = wrong number detail e
    go (given line) e = right line e

-- a line's records have room where it is tested
line_inside : (state : LinesState) → state.at + record_room ≤ length state.out → {line : LineWithCalls} → first_line_reply state.left ≡ given line
    → state.at + length (write_records line.calls) ≤ length state.out
line_inside state room {line} e = omega (arith, (first_given state.left e).1, writes_length line.calls)

-- the bytes whose lines may still be taken: none after a refusal
abbrev pub to_take : LinesState → ℕ
to_take state = cond (eqb state.done.refusal 0) (length state.left) 0

pub to_take_most : (state : LinesState) → to_take state ≤ length state.left
to_take_most state = go (eqb state.done.refusal 0)
  where
    go : (b : Bool) → cond b (length state.left) 0 ≤ length state.left
    go true = omega arith
    go false = omega arith

-- no more is left after a line than there was
one_most : (state : LinesState) → length (take_line state).left ≤ length state.left
one_most state =
    by_line (λ after. length after.left ≤ length state.left) state (λ number detail e. omega arith)
    (λ line e. omega (arith, length-drop (line.count + 1) state.left))

-- one line that may be taken
module _ (last : Bool) (state : LinesState) (may : may_take_line last state ≡ true) where
  abbrev left : List ℕ
  left = state.left

  -- what the tests tell
  pub tests : (state.done.refusal ≡ 0) × (shows last left ≡ true) × (state.at + record_room ≤ length state.out)
  unfolding may_take_next
  tests =
      let on = eqb state.done.refusal 0 in
      let room = has_room (length state.out) state.at record_room in
      let outer = both (on && room) (shows last left) may in
      let inner = both on room outer.0 in
      (eqb-true state.done.refusal 0 inner.0, outer.1, leb-true (state.at + record_room) (length state.out) inner.1)

  pub has_room_lem : state.at + record_room ≤ length state.out
  has_room_lem = tests.2

  pub some_byte : 1 ≤ length state.left
  some_byte = some_left last left tests.1

  pub one_inside : (take_line state).at ≤ length (take_line state).out
  one_inside =
      by_line (λ after. after.at ≤ length after.out) state (λ number detail e. omega (arith, has_room_lem))
      (λ line e.
      let fits = line_inside state has_room_lem e in
      omega (arith, length-written state.out state.at (write_records line.calls) fits))

  -- less is to take after it
  pub one_less : 1 + to_take (take_line state) ≤ to_take state
  one_less =
      let all : to_take state ≡ length left = ap (λ (n : ℕ). cond (eqb n 0) (length left) 0) tests.0 in
      let one : 1 + to_take (take_line state) ≤ length left =
      by_line (λ after. 1 + to_take after ≤ length left) state
      (λ number detail e. let some = not_zero left e in rw (ne_eqb number 0 (λ z. omega arith)) (omega (arith, some_byte)))
      (λ line e. omega (arith, (first_given left e).0, length-drop (line.count + 1) left)) in
      omega arith

  -- it puts its records
  one_puts : (rest : List ℕ) → (last ≡ true → rest ≡ []) → LinesFit state.done (left ++ rest) → PutsNext rest state (take_line state)
  one_puts rest ends fit = by_line (PutsNext rest state) state wrong right
    where
      -- what is to come, by the next line
      by_next : {reply : Reply LineWithCalls} → first_line_reply left ≡ reply
          → to_come state.done (left ++ rest) ≡ on_reply write_records (line_then (state.done.lines + 1) (left ++ rest) reply)
      by_next e =
          rw tests.0
          (ap (on_reply write_records)
          (calls_first (left ++ rest) (omega (arith, some_byte, length-append left rest)) (state.done.lines + 1)
          ∙ ap (line_then (state.done.lines + 1) (left ++ rest)) (same_next last left rest ends tests.1 ∙ e)))

      wrong : (number : ℕ) (detail : Detail ℕ) → first_line_reply left ≡ refused_with number detail → PutsNext rest state (after_line state (refused_with number detail))
      wrong number detail e =
          let some = not_zero left e in
          record {
            records = [];
            stored = sym (written_nil state.out state.at);
            place = sym (add-zero state.at);
            inside = omega (arith, has_room_lem);
            same = by_next e ∙ rw (ne_eqb number 0 (λ z. omega arith));
            fits = omega (arith, length-append left rest);
          }

      right : (line : LineWithCalls) → first_line_reply left ≡ given line → PutsNext rest state (after_line state (given line))
      right line e =
          let within = (first_given left e).0 in
          let more = length-append left rest in
          let next = length-append (drop (line.count + 1) left) rest in
          let size = length-drop (line.count + 1) left in
          let count : (state.done.lines + 1) % 2 ^ 64 ≡ state.done.lines + 1 = omega arith in
          record {
            records = write_records line.calls;
            stored = refl;
            place = refl;
            inside = line_inside state has_room_lem e;
            same =
                by_next e
                ∙ records_joined line.calls (calls_from (suc (state.done.lines + 1)) (parts_of (drop (line.count + 1) (left ++ rest))))
                ∙ rw (count, add-one (state.done.lines + 1), drop-append-le (line.count + 1) left rest (omega arith));
            fits = rw count (omega arith);
          }

-- one line by the source's steps
module _ (state : LinesState) where
  pub one_refused : (number : ℕ) → first_line_reply state.left ≡ refused number
      → lines_state_at (record { lines = state.done.lines; refusal = number }) state.left state.out state.at ≡ take_line state
  unfolding take_line
  one_refused number e = rw e

  pub one_given : state.at + record_room ≤ length state.out → {line : LineWithCalls} {out : List ℕ} {next : ℕ} → first_line_reply state.left ≡ given line
      → Puts state.out state.at (write_records line.calls) out next
      → lines_state_at (record { lines = (state.done.lines + 1) % 2 ^ 64; refusal = 0 }) (drop (line.count + 1) state.left) out next ≡ take_line state
  unfolding take_line
  one_given room e puts =
      let fits = line_inside state room e in
      rw (e, whole_buffer puts fits, whole_place puts fits)

module _ (rest : List ℕ) where
  -- nothing is taken
  puts_none : (state : LinesState) → state.at ≤ length state.out → LinesFit state.done (state.left ++ rest) → PutsNext rest state state
  puts_none state h fit =
      record {
        records = [];
        stored = sym (written_nil state.out state.at);
        place = sym (add-zero state.at);
        inside = h;
        same = joined_none (to_come state.done (state.left ++ rest));
        fits = fit;
      }

  -- some records after others
  puts_then : {a b c : LinesState} → PutsNext rest a b → PutsNext rest b c → PutsNext rest a c
  puts_then {a} {b} {c} p q =
      let size = length-append p.records q.records in
      let same = ap length p.stored ∙ length-written a.out a.at p.records (omega (arith, p.place, p.inside)) in
      record {
        records = p.records ++ q.records;
        stored = q.stored ∙ rw (p.stored, p.place) (written_more a.out a.at p.records (omega (arith, p.place, p.inside)) q.records (omega (arith, p.place, q.place, q.inside)));
        place = omega (arith, p.place, q.place);
        inside = omega (arith, q.inside);
        same = p.same ∙ ap (put_then p.records) q.same ∙ joined_twice p.records q.records (to_come c.done (c.left ++ rest));
        fits = q.fits;
      }

-- the window's lines by the test of the first of them
pub by_first : (P : LinesState → Type 0) (n : ℕ) (last : Bool) (state : LinesState) → (may_take_line last state ≡ true → P (take_lines n last (take_line state)))
    → (may_take_line last state ≡ false → P state) → P (take_lines (suc n) last state)
unfolding take_lines
by_first P n last state more none = go (may_take_line last state) refl
  where
    go : (b : Bool) → may_take_line last state ≡ b → P (cond b (take_lines n last (take_line state)) state)
    go true e = more e
    go false e = none e

pub lines_put : (n : ℕ) (last : Bool) (rest : List ℕ) (before : LinesState) → (last ≡ true → rest ≡ []) → before.at ≤ length before.out
    → LinesFit before.done (before.left ++ rest) → PutsNext rest before (take_lines n last before)
unfolding take_lines
lines_put zero last rest before ends inside fit = puts_none rest before inside fit
lines_put (suc n) last rest before ends inside fit =
    by_first (PutsNext rest before) n last before
    (λ e.
    let one = one_puts last before e rest ends fit in
    puts_then rest one (lines_put n last rest (take_line before) ends (one_inside last before e) one.fits))
    (λ e. puts_none rest before inside fit)

-- no more is left than there was
pub left_most : (n : ℕ) (last : Bool) (state : LinesState) → length (take_lines n last state).left ≤ length state.left
unfolding take_lines
left_most zero last state = omega arith
left_most (suc n) last state =
    by_first (λ after. length after.left ≤ length state.left) n last state
    (λ e. omega (arith, one_most state, left_most n last (take_line state)))
    (λ e. omega arith)

-- nor is more to take
to_take_less : (n : ℕ) (last : Bool) (state : LinesState) → to_take (take_lines n last state) ≤ to_take state
unfolding take_lines
to_take_less zero last state = omega arith
to_take_less (suc n) last state =
    by_first (λ after. to_take after ≤ to_take state) n last state
    (λ e. omega (arith, one_less last state e, to_take_less n last (take_line state)))
    (λ e. omega arith)

-- the next line is taken, or none
next_taken : (n : ℕ) (last : Bool) (state : LinesState) → may_take_line last state ≡ true → take_lines (suc n) last state ≡ take_lines n last (take_line state)
unfolding take_lines
next_taken n last state may = rw may

pub none_taken : (n : ℕ) (last : Bool) (state : LinesState) → may_take_line last state ≡ false → take_lines n last state ≡ state
unfolding take_lines
none_taken zero last state may = refl
none_taken (suc n) last state may = rw may

-- where a line may be taken, and none is refused, less is left
pub left_less : (n : ℕ) (last : Bool) (state : LinesState) → length state.left ≤ n → may_take_line last state ≡ true
    → eqb (take_lines n last state).done.refusal 0 ≡ true → length (take_lines n last state).left < length state.left
left_less zero last state h may none = let some = some_byte last state may in absurd (omega arith)
left_less (suc n) last state h may none =
    let less : 1 + to_take (take_lines (suc n) last state) ≤ to_take state =
    rw (next_taken n last state may) (omega (arith, to_take_less n last (take_line state), one_less last state may)) in
    let all : to_take (take_lines (suc n) last state) ≡ length (take_lines (suc n) last state).left =
    ap (λ (b : Bool). cond b (length (take_lines (suc n) last state).left) 0) none in
    omega (arith, to_take_most state)

-- The source's loop is on its way from the start of a window: the lines from here on, with enough of them asked for, end where it ends.
pub record OnTheWay (last : Bool) (start now : LinesState) : Type 0 where
  pub n : ℕ
  pub enough : to_take now ≤ n
  pub same : take_lines (length start.left) last start ≡ take_lines n last now

module _ (last : Bool) (start : LinesState) where
  pub way_start : OnTheWay last start start
  way_start = record { n = length start.left; enough = to_take_most start; same = refl }

  module _ (state : LinesState) (way : OnTheWay last start state) where
    pub way_on : may_take_line last state ≡ true → OnTheWay last start (take_line state)
    way_on may = go way.n way.enough way.same
      where
        go : (n : ℕ) → to_take state ≤ n → take_lines (length start.left) last start ≡ take_lines n last state → OnTheWay last start (take_line state)
        go zero h e = absurd (omega (arith, one_less last state may))
        go (suc n) h e = record { n = n; enough = omega (arith, one_less last state may); same = e ∙ next_taken n last state may }

    pub way_end : may_take_line last state ≡ false → state ≡ take_lines (length start.left) last start
    way_end may = sym (way.same ∙ none_taken way.n last state may)
