-- What a window prints is the next part of the text that is to come, and how the source's loop gets through it.
-- Assumes nothing.
use Rattle.std.proofs.Common.{◌≡◌, ℕ, zero, suc, ◌+◌, ◌≤◌, min, Bool, true, false, cond, not, ◌&&◌, leb, List, [], ◌++◌, length, drop, sym, refl, ap, ◌∙◌, add-zero, arith, length-append, drop_of_length-le, leb-false, leb-true}
use native.Mathlib.Nat.{min-eq_left, min-eq_right, min-le_right}
use borrow.Author.Tests.{not-true}
use lib.Seq.{drop-length}
use Rattle.laws.specs.Reply.{Reply}
use Rattle.laws.specs.Buffers.{has_room}
use Rattle.laws.proofs.Bools.{both}
use Rattle.laws.proofs.Buffers.{written_nil, written_more, length-written}
use Rattle.buffers.specs.Putting.{Puts}
use Rattle.buffers.proofs.PutLaws.{whole_buffer, whole_place}
use Rattle.trace.specs.Framing.{record_length}
use Rattle.trace.specs.Records.{TraceRecord, record_of}
use Rattle.trace.proofs.WindowLaws.{rest_less, shows, some_left, same_next}
use Rattle.answers.specs.Answers.{answer_reply}
use Rattle.printing.specs.PrintedLines.{printed_line}
use Rattle.printing.proofs.LineLengths.{printed_line_short}
use Rattle.playback.specs.declared.Session.{Session}
use Rattle.playback.specs.declared.record.RecordPlayed.{RecordPlayed}
use Rattle.playback.specs.Playing.{Played, play_record}
use Rattle.playback.specs.Windows.{is_first, played_next, session_after, text_room, WindowState, may_play_next, may_play, play_one, play_window, end_from, text_then, CountsFit}
use Rattle.playback.specs.Windows.{PrintsNext, WindowsPrint, PlaysOut}
use Rattle.playback.specs.PrivateContracts.{played_of, PlaysOne}
use Rattle.playback.proofs.SoundPlays.{found_sound}
use Rattle.playback.proofs.EndLaws.{session_next, line_next, text_text, counts_next, end_next}

-- of a record that is cut short, what is there of it is taken
used_rest : (bytes : List ℕ) → drop (min (record_length bytes) (length bytes)) bytes ≡ drop (record_length bytes) bytes
used_rest bytes = go (leb (record_length bytes) (length bytes)) refl
  where
    go : (b : Bool) → leb (record_length bytes) (length bytes) ≡ b → drop (min (record_length bytes) (length bytes)) bytes ≡ drop (record_length bytes) bytes
    go true e = rw (min-eq_left (leb-true (record_length bytes) (length bytes) e))
    go false e =
        let over = leb-false (record_length bytes) (length bytes) e in
        rw (min-eq_right {n = length bytes} {m = record_length bytes} (omega arith), drop-length bytes, drop_of_length-le bytes {i = record_length bytes} (omega arith))

-- a line has room where it is tested
line_inside : (state : WindowState) → state.at + text_room ≤ length state.out
    → state.at + length (line_next state.session state.packets state.left) ≤ length state.out
line_inside state room =
    let sound = found_sound state.session.hub state.packets (is_first state.session) state.left in
    omega (arith, printed_line_short (session_next state.session state.packets state.left).records (played_next state.session state.packets state.left).reply sound.short)

-- one record that may be played
module _ (last : Bool) (state : WindowState) (may : may_play last state ≡ true) where
  abbrev left : List ℕ
  left = state.left

  abbrev line : List ℕ
  line = line_next state.session state.packets left

  -- what the tests tell
  tests : (state.session.ended ≡ false) × (shows last left ≡ true) × (state.at + text_room ≤ length state.out)
  unfolding may_play_next
  tests =
      let on = not state.session.ended in
      let room = has_room (length state.out) state.at text_room in
      let outer = both (on && room) (shows last left) may in
      let inner = both on room outer.0 in
      (not-true state.session.ended inner.0, outer.1, leb-true (state.at + text_room) (length state.out) inner.1)

  pub has_room_lem : state.at + text_room ≤ length state.out
  has_room_lem = tests.2

  pub some_byte : 1 ≤ length state.left
  some_byte = some_left last left tests.1

  pub one_inside : (play_one state).at ≤ length (play_one state).out
  unfolding play_one
  one_inside = let fits = line_inside state has_room_lem in omega (arith, length-written state.out state.at line fits)

  -- fewer bytes are left
  pub one_less : 1 + length (play_one state).left ≤ length state.left
  unfolding play_one
  one_less = rest_less left some_byte

  -- it prints its line
  one_prints : (rest : List ℕ) → (last ≡ true → rest ≡ []) → CountsFit state.session (left ++ rest) → PrintsNext rest state (play_one state)
  unfolding play_one
  one_prints rest ends fit =
      let same = same_next last (is_first state.session) left rest ends tests.1 in
      let some = some_byte in
      let more = length-append left rest in
      let fits = counts_next state.session state.packets (left ++ rest) (omega arith) fit in
      record {
        text = line;
        stored = refl;
        place = refl;
        inside = line_inside state has_room_lem;
        printed = rw (same.found, same.after) at (end_next state.session state.packets (left ++ rest) (omega arith) fit tests.0);
        counts = rw (same.found, same.after) at fits;
      }

-- one record by the source's steps
pub one_played : (before : WindowState) → before.at + text_room ≤ length before.out
    → (result : RecordPlayed) {found : Reply TraceRecord} {after : Session} {packets out : List ℕ} {used next : ℕ}
    → found ≡ record_of (is_first before.session) before.left
    → used ≡ min (record_length before.left) (length before.left)
    → played_of result packets ≡ play_record before.session.hub before.packets found
    → after ≡ session_after before.session (played_of result packets)
    → Puts before.out before.at (printed_line after.records (answer_reply result.answer)) out next
    → PlaysOne before (record { session = after; used = used; next = next }) packets out
unfolding play_one
one_played before room result f u p a puts =
    let left = before.left in
    let same = p ∙ ap (play_record before.session.hub before.packets) f in
    let moved = a ∙ ap (session_after before.session) same in
    let line = rw (moved, ap (λ (played : Played). played.reply) same) at puts in
    let fits = line_inside before room in
    record {
      state = rw (u, used_rest left, moved, ap (λ (played : Played). played.packets) same, whole_buffer line fits, whole_place line fits);
      used = rw u (min-le_right (record_length left) (length left));
    }

module _ (rest : List ℕ) where
  -- nothing is played
  prints_none : (state : WindowState) → state.at ≤ length state.out → CountsFit state.session (state.left ++ rest) → PrintsNext rest state state
  prints_none state h fit =
      record {
        text = [];
        stored = sym (written_nil state.out state.at);
        place = sym (add-zero state.at);
        inside = h;
        printed = refl;
        counts = fit;
      }

  -- one part of the text after another
  prints_then : {a b c : WindowState} → PrintsNext rest a b → PrintsNext rest b c → PrintsNext rest a c
  prints_then {a} {b} {c} p q =
      let size = length-append p.text q.text in
      let same = ap length p.stored ∙ length-written a.out a.at p.text (omega (arith, p.place, p.inside)) in
      record {
        text = p.text ++ q.text;
        stored = q.stored ∙ rw (p.stored, p.place) (written_more a.out a.at p.text (omega (arith, p.place, p.inside)) q.text (omega (arith, p.place, q.place, q.inside)));
        place = omega (arith, p.place, q.place);
        inside = omega (arith, q.inside);
        printed = p.printed ∙ ap (text_then p.text) q.printed ∙ sym (text_text p.text q.text (end_from c.session c.packets (c.left ++ rest)));
        counts = q.counts;
      }

-- the window's records by the test of the first of them
by_first : (P : WindowState → Type 0) (n : ℕ) (last : Bool) (state : WindowState) → (may_play last state ≡ true → P (play_window n last (play_one state)))
    → (may_play last state ≡ false → P state) → P (play_window (suc n) last state)
unfolding play_window
by_first P n last state more none = go (may_play last state) refl
  where
    go : (b : Bool) → may_play last state ≡ b → P (cond b (play_window n last (play_one state)) state)
    go true e = more e
    go false e = none e

pub windows_print : WindowsPrint
unfolding play_window
windows_print zero last rest before ends inside fit = prints_none rest before inside fit
windows_print (suc n) last rest before ends inside fit =
    by_first (PrintsNext rest before) n last before
    (λ e.
    let one = one_prints last before e rest ends fit in
    prints_then rest one (windows_print n last rest (play_one before) ends (one_inside last before e) one.counts))
    (λ e. prints_none rest before inside fit)

pub plays_out : PlaysOut
unfolding play_window
plays_out zero last before h = go (may_play last before) refl
  where
    go : (b : Bool) → may_play last before ≡ b → b ≡ false
    go true e = let some = some_byte last before e in absurd (omega arith)
    go false e = refl
plays_out (suc n) last before h =
    by_first (λ after. may_play last after ≡ false) n last before
    (λ e. let less = one_less last before e in plays_out n last (play_one before) (omega arith))
    (λ e. e)

-- the next record is played, or none
next_played : (n : ℕ) (last : Bool) (state : WindowState) → may_play last state ≡ true → play_window (suc n) last state ≡ play_window n last (play_one state)
unfolding play_window
next_played n last state may = rw may

none_played : (n : ℕ) (last : Bool) (state : WindowState) → may_play last state ≡ false → play_window n last state ≡ state
unfolding play_window
none_played zero last state may = refl
none_played (suc n) last state may = rw may

-- The source's loop is on its way from the start of a window: the records from here on, with enough of them asked for, end where it ends.
pub record OnTheWay (last : Bool) (start now : WindowState) : Type 0 where
  pub n : ℕ
  pub enough : length now.left ≤ n
  pub same : play_window (length start.left) last start ≡ play_window n last now

module _ (last : Bool) (start : WindowState) where
  pub way_start : OnTheWay last start start
  way_start = record { n = length start.left; enough = omega arith; same = refl }

  module _ (state : WindowState) (way : OnTheWay last start state) where
    pub way_on : may_play last state ≡ true → OnTheWay last start (play_one state)
    way_on may = go way.n way.enough way.same
      where
        go : (n : ℕ) → length state.left ≤ n → play_window (length start.left) last start ≡ play_window n last state → OnTheWay last start (play_one state)
        go zero h e = let some = some_byte last state may in absurd (omega arith)
        go (suc n) h e = record { n = n; enough = omega (arith, one_less last state may); same = e ∙ next_played n last state may }

    pub way_end : may_play last state ≡ false → state ≡ play_window (length start.left) last start
    way_end may = sym (way.same ∙ none_played way.n last state may)
