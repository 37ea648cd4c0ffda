-- Playing a file may be done window by window, so that however it is read the run comes to the same end.
-- Assumes nothing.
use mathlib.Core.Path.{◌≡◌, refl, sym, ap, ◌∙◌}
use mathlib.Core.Bool.{Bool, true, false, cond, not}
use mathlib.Core.List.{List, [], ◌++◌}
use Prim.Native.Nat.{ℕ, ◌≤◌, ◌<◌}
use native.Mathlib.Nat.{zero-add}
use native.Mathlib.Omega.{arith}
use borrow.Author.Tests.{ne_eqb}
use lib.Dec.{eqb}
use lib.ListN.{length, take, drop}
use lib.Seq.{take-append_seam, drop-append_seam}
use Rattle.laws.specs.Elements.{AreBytes}
use Rattle.laws.proofs.Elements.{below_from, below_to, below_append}
use Rattle.laws.proofs.Buffers.{read_written}
use Rattle.streams.specs.Streams.{Result, ByWindows}
use Rattle.streams.proofs.StreamLaws.{however_read}
use Rattle.trace.specs.Framing.{longest_record, holds_record}
use Rattle.trace.proofs.RecordLaws.{longest_record_lem}
use Rattle.playback.specs.Windows.{WindowState, state_at, text_room, RunEnd, end_from, text_then, session_end, CountsFit, PrintsNext}
use Rattle.playback.proofs.EndLaws.{starts_with_all, ends_with_counts, text_text}
use Rattle.playback.proofs.WindowLaws.{windows_print}
use Rattle.turns.specs.Turns.{window_played, PlayState, playing, play_start, HoweverCut}
use Rattle.turns.proofs.PlayedWindows.{ended_stays, may_play_lem, left_end, left_most, left_less}

-- what a run comes to
abbrev run_result : Result PlayState RunEnd
run_result =
    record {
      to_come = λ state bytes. end_from state.session state.packets bytes;
      after = text_then;
      end = λ state. session_end state.session;
    }

-- what is known of the bytes that are still to come
record Known (state : PlayState) (bytes : List ℕ) : Type 0 where
  small : AreBytes bytes
  counts : CountsFit state.session bytes

-- what was put from the start of a buffer
put_text : (rest : List ℕ) (before after : WindowState) (prints : PrintsNext rest before after) → before.at ≡ 0 → take after.at after.out ≡ prints.text
put_text rest before after prints start =
    rw (prints.stored, prints.place, start, zero-add (length prints.text))
    (read_written before.out 0 prints.text (omega (arith, prints.place, prints.inside)))

-- a part of a file's bytes
module _ (bytes rest : List ℕ) (small : AreBytes (bytes ++ rest)) where
  first_small : AreBytes bytes
  first_small = rw (take-append_seam bytes rest) at (below_to 256 (length bytes) (bytes ++ rest) small)

  rest_small : AreBytes rest
  rest_small = rw (drop-append_seam bytes rest) at (below_from 256 (length bytes) (bytes ++ rest) small)

module _ (last : Bool) (state : PlayState) (bytes lent rest : List ℕ) (room : text_room ≤ length lent) (known : Known state (bytes ++ rest)) where
  abbrev before : WindowState
  before = state_at state.session bytes state.packets lent 0

  abbrev after : WindowState
  after = window_played last state.session state.packets bytes lent

  module _ (ends : last ≡ true → rest ≡ []) where
    prints : PrintsNext rest before after
    prints = windows_print (length bytes) last rest before ends (omega arith) known.counts

    next_known : AreBytes (after.left ++ rest)
    next_known =
        let end = left_end (length bytes) last before in
        rw end.1
        (below_append 256 (drop end.0 bytes) rest (below_from 256 end.0 bytes (first_small bytes rest known.small))
        (rest_small bytes rest known.small))

    next_window : (end_from state.session state.packets (bytes ++ rest)
        ≡ text_then (take after.at after.out) (end_from after.session after.packets (after.left ++ rest)))
        × Known (record { session = after.session; packets = after.packets }) (after.left ++ rest)
        × (after.session.ended ≡ true → end_from after.session after.packets (after.left ++ rest) ≡ session_end after.session)
    next_window = (
      rw (put_text rest before after prints refl) prints.printed,
      record { small = next_known; counts = prints.counts },
      λ e. ends_with_counts after.session after.packets (after.left ++ rest) (rw e),
    )

  -- where the run has not ended after the window, it had not before
  going : after.session.ended ≡ false → state.session.ended ≡ false
  going on = go state.session.ended refl
    where
      go : (b : Bool) → state.session.ended ≡ b → b ≡ false
      go true e = sym (ap (λ (s : WindowState). s.session.ended) (ended_stays (length bytes) last before e) ∙ e) ∙ on
      go false e = refl

  shows : 1 ≤ length bytes → (last ≡ false → longest_record ≤ length bytes)
      → (b : Bool) → last ≡ b → cond b (not (eqb (length bytes) 0)) (holds_record bytes) ≡ true
  shows one long true e = ap not (ne_eqb (length bytes) 0 (λ z. absurd (omega arith)))
  shows one long false e = longest_record_lem bytes (first_small bytes rest known.small 3) (long e)

  fewer : 1 ≤ length bytes → (last ≡ false → longest_record ≤ length bytes) → after.session.ended ≡ false
      → length after.left < length bytes
  fewer one long on =
      left_less (length bytes) last before (omega arith) (may_play_lem last before (going on) (omega arith) (shows one long last refl))

by_windows : ByWindows playing run_result Known longest_record text_room
by_windows =
    record {
      joined = text_text;
      nothing = λ r. refl;
      at_end = λ state. ends_with_counts state.session state.packets [] (ended_or_none state.session.ended);
      next = λ last state bytes lent rest ends room known. next_window last state bytes lent rest room known ends;
      most = λ last state bytes lent. left_most (length bytes) last (state_at state.session bytes state.packets lent 0);
      less = λ last state bytes lent rest room known one long on. fewer last state bytes lent rest room known one long on;
    }
  where
    ended_or_none : (b : Bool) → cond b true (eqb (length {A = ℕ} []) 0) ≡ true
    ended_or_none true = refl
    ended_or_none false = refl

pub however_cut : HoweverCut
however_cut file size inputs bytes small holds lines few =
    let known : Known play_start file = record { small = bytes; counts = (omega arith, omega arith) } in
    let end = however_read PlayState RunEnd playing run_result Known longest_record text_room by_windows play_start file size inputs known (omega arith) holds lines few in
    let whole = end.1 ∙ starts_with_all file in
    record { done = end.0; text = ap (λ (e : RunEnd). e.text) whole; hub = ap (λ (e : RunEnd). e.hub) whole }
