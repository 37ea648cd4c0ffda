-- What is left of a window that was played.
-- Assumes nothing.
use mathlib.Core.Path.{◌≡◌, refl, ap, ◌∙◌}
use mathlib.Core.Bool.{Bool, true, false, cond, not}
use Prim.Native.Nat.{ℕ, zero, suc, ◌+◌, ◌≤◌, ◌<◌}
use native.Mathlib.Omega.{arith}
use borrow.Author.Tests.{le-leb}
use lib.Dec.{eqb}
use lib.ListN.{length, drop, length-drop}
use lib.Seq.{drop-drop}
use Rattle.trace.specs.Framing.{record_length, holds_record}
use Rattle.playback.specs.Windows.{WindowState, text_room, may_play_next, may_play, play_one, play_window}
use Rattle.playback.proofs.WindowLaws.{one_less, some_byte}

-- where the run has ended nothing is played
pub ended_stays : (n : ℕ) (last : Bool) (state : WindowState) → state.session.ended ≡ true → play_window n last state ≡ state
unfolding play_window may_play_next
ended_stays zero last state e = refl
ended_stays (suc n) last state e = rw e

-- a record is played where the run has not ended, its line has room, and the window shows one
pub may_play_lem : (last : Bool) (state : WindowState) → state.session.ended ≡ false → state.at + text_room ≤ length state.out
    → cond last (not (eqb (length state.left) 0)) (holds_record state.left) ≡ true → may_play last state ≡ true
unfolding may_play_next
may_play_lem last state on room shows = rw (on, le-leb (state.at + text_room) (length state.out) room, shows)

-- what is left is the end of what was there
pub left_end : (n : ℕ) (last : Bool) (state : WindowState) → (k : ℕ) × ((play_window n last state).left ≡ drop k state.left)
unfolding play_window play_one
left_end zero last state = (0, refl)
left_end (suc n) last state = go (may_play last state) (left_end n last (play_one state))
  where
    go : (b : Bool) → (k : ℕ) × ((play_window n last (play_one state)).left ≡ drop k (play_one state).left)
        → (k : ℕ) × ((cond b (play_window n last (play_one state)) state).left ≡ drop k state.left)
    go true rest = (record_length state.left + rest.0, rest.1 ∙ drop-drop rest.0 (record_length state.left) state.left)
    go false rest = (0, refl)

pub left_most : (n : ℕ) (last : Bool) (state : WindowState) → length (play_window n last state).left ≤ length state.left
left_most n last state =
    let rest = left_end n last state in
    let size = ap length rest.1 ∙ length-drop rest.0 state.left in
    omega arith

-- and where a record may be played it is less
pub left_less : (n : ℕ) (last : Bool) (state : WindowState) → length state.left ≤ n → may_play last state ≡ true
    → length (play_window n last state).left < length state.left
unfolding play_window
left_less zero last state h may = let some = some_byte last state may in absurd (omega arith)
left_less (suc n) last state h may = rw may (omega (arith, left_most n last (play_one state), one_less last state may))
