-- Laws of so many bytes of a buffer, or all there are, and of a read of a file.
-- Assumes nothing.
use mathlib.Core.Path.{◌≡◌, refl, sym, ap, ap₂, ◌∙◌}
use mathlib.Core.Bool.{Bool, true, false, cond}
use mathlib.Core.List.{List, [], ◌∷◌, ◌++◌}
use Prim.Native.Nat.{ℕ, suc, ◌+◌, ◌-◌, ◌≤◌, ◌<◌, min}
use native.Mathlib.Nat.{min-eq_left, min-eq_right}
use native.Mathlib.Omega.{arith}
use borrow.Author.Tests.{leb-true, leb-false, ltb-true, eqb-true}
use lib.Dec.{leb, eqb, ltb}
use lib.ListN.{length, take, drop, length-take, length-drop, drop_of_length-le, take-append-drop}
use lib.Seq.{take_all, take-add, drop-length}
use Rattle.laws.specs.Buffers.{written}
use Rattle.laws.proofs.Absurd.{zero_not_one}
use Rattle.laws.proofs.Buffers.{read_written}
use Rattle.streams.specs.declared.Window.{Window}
use Rattle.streams.specs.Streams.{file_ended, after_read, ReadsAfterHeld, nothing_left, Worked, Work, Way, TurnInput, bytes_read, next_turn}
use Rattle.streams.specs.Streams.{StandsAt, ReadGave, IsNextTurn}

module _ (n : ℕ) (l : List ℕ) where
  by_length : (P : ℕ → Type 0) → (n ≤ length l → P n) → (length l ≤ n → P (length l)) → P (min n (length l))
  by_length P few all = go (leb n (length l)) refl
    where
      go : (b : Bool) → leb n (length l) ≡ b → P (min n (length l))
      go true e = let h = leb-true n (length l) e in rw (min-eq_left {n = n} {m = length l} h) (few h)
      go false e =
          let h = leb-false n (length l) e in
          let over : length l ≤ n = omega arith in
          rw (min-eq_right {n = length l} {m = n} over) (all over)

  pub take_min : take (min n (length l)) l ≡ take n l
  take_min = by_length (λ k. take k l ≡ take n l) (λ h. refl) (λ h. take_all (length l) l (omega arith) ∙ sym (take_all n l h))

  pub drop_min : drop (min n (length l)) l ≡ drop n l
  drop_min = by_length (λ k. drop k l ≡ drop n l) (λ h. refl) (λ h. drop-length l ∙ sym (drop_of_length-le l {i = n} h))

-- what a window holds after a read: what it held with the new bytes after it
module _ (window : Window) (got : ℕ) (buffer : List ℕ) where
  abbrev left : List ℕ
  left = take window.held buffer

  abbrev new : List ℕ
  new = take got (drop window.held buffer)

  abbrev held : ℕ
  held = min window.held (length buffer)

  rest : drop held buffer ≡ drop window.held buffer
  rest = drop_min window.held buffer

  left_count : length left ≡ held
  left_count = length-take window.held buffer

  new_count : length new ≡ min got (length buffer - held)
  new_count = ap (λ (l : List ℕ). length (take got l)) (sym rest) ∙ length-take got (drop held buffer) ∙ ap (min got) (length-drop held buffer)

  read_held : take (after_read window got (length buffer)).held buffer ≡ left ++ new
  read_held =
      take-add held (min got (length buffer - held)) buffer
      ∙ ap₂ ◌++◌ (take_min window.held buffer)
      (ap (λ (k : ℕ). take k (drop held buffer)) (ap (min got) (sym (length-drop held buffer)))
      ∙ take_min got (drop held buffer)
      ∙ ap (take got) rest)

  read_last : (after_read window got (length buffer)).last ≡ file_ended window.last (length left) (length buffer) (length new)
  read_last = sym (ap₂ (λ (a b : ℕ). file_ended window.last a (length buffer) b) left_count new_count)

pub reads_after_held : ReadsAfterHeld
reads_after_held window got buffer = record { bytes = read_held window got buffer; last = read_last window got buffer }

no_length : (l : List ℕ) → length l ≡ 0 → l ≡ []
no_length [] e = refl
no_length (byte ∷ l) e = absurd (omega arith)

-- a read and the rest of the file are the file
module _ (room more : ℕ) (unread : List ℕ) where
  abbrev read : List ℕ
  read = bytes_read room more unread

  pub read_split : read ++ drop (length read) unread ≡ unread
  read_split =
      ap (λ (l : List ℕ). read ++ l)
      (ap (λ (n : ℕ). drop n unread) (length-take (min (suc more) room) unread) ∙ drop_min (min (suc more) room) unread)
      ∙ take-append-drop (min (suc more) room) unread

  -- where no byte is read though one has room, none is left
  pub read_none : 1 ≤ room → length read ≡ 0 → unread ≡ []
  read_none h e = no_length unread (let n = length-take (min (suc more) room) unread in omega arith)

-- where the end of the file was found
pub found_end : (held size count : ℕ) → file_ended false held size count ≡ true → (held < size) × (count ≡ 0)
found_end held size count h = go (ltb held size) refl h
  where
    go : (free : Bool) → ltb held size ≡ free → cond free (eqb count 0) false ≡ true → (held < size) × (count ≡ 0)
    go true f e = (ltb-true held size f, eqb-true count 0 e)
    go false f e = zero_not_one (cc)

-- the window after a read, as the source makes it
pub made_read : (window : Window) (got size : ℕ) {held new : ℕ} {last : Bool} → (held ≡ min window.held size) × (held ≤ size)
    → (new ≡ min got (size - held)) × (new ≤ size - held) → last ≡ file_ended window.last held size new
    → (◌≡◌ {A = Window} (record { held = held + new; last = last }) (after_read window got size)) × (held + new ≤ size)
made_read window got size h n l = (rw (l, n.0, h.0), omega (arith, h.1, n.1))

-- what is left of a window, as the source moves it to the start
pub made_slide : (buffer : List ℕ) (used held : ℕ) {from to count : ℕ} {after : List ℕ} → to ≡ min held (length buffer) → from ≡ min used to
    → count ≡ to - from → after ≡ written buffer 0 (drop from (take to buffer))
    → (count ≡ length (drop used (take held buffer))) × (after ≡ written buffer 0 (drop used (take held buffer)))
made_slide buffer used held {from} {to} t f c w =
    let here = take held buffer in
    let whole : take to buffer ≡ here = ap (λ (n : ℕ). take n buffer) t ∙ take_min held buffer in
    let size : to ≡ length here = t ∙ sym (length-take held buffer) in
    let part : drop from (take to buffer) ≡ drop used here =
    ap (drop from) whole ∙ ap (λ (n : ℕ). drop n here) (f ∙ ap (min used) size) ∙ drop_min used here in
    let count : length (drop used here) ≡ to - from =
    sym (ap length part) ∙ length-drop from (take to buffer) ∙ ap (λ (l : List ℕ). length l - from) whole ∙ ap (λ (n : ℕ). n - from) (sym size) in
    (c ∙ sym count, w ∙ ap (written buffer 0) part)

-- the bytes that a program's turn works on are those of the way's next turn, and so is whether they are the last
module _ {S : Type 0} (way : Way S) (input : TurnInput) (state : S) (window : Window) (got : ℕ) (buffer : List ℕ)
    (at : StandsAt way state window buffer) (gave : ReadGave way input window got buffer) where
  abbrev next_bytes : List ℕ
  next_bytes = bytes_read (length buffer - length way.left) input.more way.unread

  abbrev next_ended : Bool
  next_ended = file_ended way.last (length way.left) (length buffer) (length next_bytes)

  turn_bytes : take (after_read window got (length buffer)).held buffer ≡ way.left ++ next_bytes
  turn_bytes = (reads_after_held window got buffer).bytes ∙ ap₂ ◌++◌ at.held gave

  turn_last : (after_read window got (length buffer)).last ≡ next_ended
  turn_last = (reads_after_held window got buffer).last ∙ rw (at.last, at.held, gave)

  -- so a program's turn that does the work with them is that turn
  module _ (work : Work S) where
    abbrev worked : Worked S
    worked = let read = after_read window got (length buffer) in work read.last state (take read.held buffer) input.lent

    same_work : worked ≡ work next_ended way.state (way.left ++ next_bytes) input.lent
    same_work = rw (turn_bytes, turn_last, at.same_state)

    pub is_next_turn : {after : S} {next : Window} {buffer_after put : List ℕ} {done : Bool} → after ≡ worked.state
        → next ≡ record { held = length worked.left; last = (after_read window got (length buffer)).last }
        → buffer_after ≡ written buffer 0 worked.left → length worked.left ≤ length buffer → put ≡ worked.put
        → done ≡ nothing_left worked.over (after_read window got (length buffer)).last (length worked.left)
        → IsNextTurn work (length buffer) way input after next buffer_after put done
    unfolding next_turn
    is_next_turn s w b fits p d =
        record {
          stands =
              record {
                same_state = s ∙ ap (λ (r : Worked S). r.state) same_work;
                held = rw (w, b) (read_written buffer 0 worked.left (omega arith) ∙ ap (λ (r : Worked S). r.left) same_work);
                last = rw w turn_last;
              };
          text = ap (λ (l : List ℕ). way.put ++ l) (sym (p ∙ ap (λ (r : Worked S). r.put) same_work));
          ends = sym (d ∙ ap₂ (λ (r : Worked S) (last : Bool). nothing_left r.over last (length r.left)) same_work turn_last);
        }
