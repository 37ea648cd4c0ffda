-- However the bytes of a file are read, the work on it ends, and comes to what it comes to on the whole file.
-- Assumes nothing.
use mathlib.Core.Path.{◌≡◌, refl, sym, ap, ◌∙◌}
use mathlib.Core.Bool.{Bool, true, false, cond, ◌&&◌}
use mathlib.Core.List.{List, [], ◌∷◌, ◌++◌, append_assoc}
use Prim.Native.Nat.{ℕ, ◌+◌, ◌-◌, ◌*◌, ◌≤◌, ◌<◌}
use native.Mathlib.Omega.{arith}
use borrow.Author.Tests.{ltb-true, ltb-false, eqb-true, eqb-false, lt-ltb, le-ltb}
use lib.Dec.{eqb, ltb}
use lib.ListN.{length, drop, length-append}
use lib.Seq.{drop-nil}
use Rattle.laws.proofs.Absurd.{zero_not_one}
use Rattle.laws.proofs.Bools.{both}
use Rattle.streams.specs.Streams.{file_ended, nothing_left, Worked, Work, Way, way_from, TurnInput, bytes_read, next_turn, all_turns}
use Rattle.streams.specs.Streams.{Result, AllLend, ByWindows, HoweverRead}
use Rattle.streams.proofs.ReadLaws.{read_split, read_none, found_end}

-- whether the end of the file is still to be found
abbrev end_to_find : Bool → ℕ
end_to_find true = 0
end_to_find false = 1

at_most_one : (b : Bool) → end_to_find b ≤ 1
at_most_one true = omega arith
at_most_one false = omega arith

no_bytes : (l : List ℕ) → length l ≡ 0 → l ≡ []
no_bytes [] e = refl
no_bytes (byte ∷ l) e = absurd (omega arith)

module _ {S R : Type 0} (work : Work S) (result : Result S R) (Holds : S → List ℕ → Type 0) (least room : ℕ)
    (by : ByWindows work result Holds least room) (start : S) (file : List ℕ) (size : ℕ) (some : 1 ≤ size) (enough : least ≤ size) where
  -- the bytes of the file that are still to come
  abbrev to_do : Way S → List ℕ
  to_do way = way.left ++ way.unread

  -- no more turns than this follow
  abbrev turns_left : Way S → ℕ
  turns_left way = 2 * length way.unread + length way.left + end_to_find way.last

  -- What holds between two turns.
  record Sound (way : Way S) : Type 0 where
    ends : way.last ≡ true → way.unread ≡ []
    holds : Holds way.state (to_do way)
    same : result.after way.put (result.to_come way.state (to_do way)) ≡ result.to_come start file
    finished : way.done ≡ true → result.to_come way.state (to_do way) ≡ result.end way.state
    more : way.done ≡ false → 1 ≤ turns_left way

  module _ (way : Way S) (input : TurnInput) (sound : Sound way) (lends : room ≤ length input.lent) where
    abbrev free : ℕ
    free = size - length way.left

    abbrev bytes : List ℕ
    bytes = bytes_read free input.more way.unread

    abbrev rest : List ℕ
    rest = drop (length bytes) way.unread

    abbrev last : Bool
    last = file_ended way.last (length way.left) size (length bytes)

    abbrev worked : Worked S
    worked = work last way.state (way.left ++ bytes) input.lent

    abbrev next : Way S
    next = next_turn work size way input

    -- the window and what is not read are all that is still to come
    all_there : (way.left ++ bytes) ++ rest ≡ to_do way
    all_there = append_assoc way.left bytes rest ∙ ap (λ (l : List ℕ). way.left ++ l) (read_split free input.more way.unread)

    -- the last bytes are the last
    rest_none : last ≡ true → rest ≡ []
    rest_none e = go way.last refl e
      where
        go : (was : Bool) → way.last ≡ was → file_ended was (length way.left) size (length bytes) ≡ true → rest ≡ []
        go true was h = ap (drop (length bytes)) (sound.ends was) ∙ drop-nil (length bytes)
        go false was h =
            let found = found_end (length way.left) size (length bytes) h in
            ap (drop (length bytes)) (read_none free input.more way.unread (omega (arith, found.0)) found.1) ∙ drop-nil (length bytes)

    here : Holds way.state ((way.left ++ bytes) ++ rest)
    here = rw all_there sound.holds

    -- what the window comes to
    comes : (result.to_come way.state ((way.left ++ bytes) ++ rest) ≡ result.after worked.put (result.to_come worked.state (worked.left ++ rest)))
        × Holds worked.state (worked.left ++ rest)
        × (worked.over ≡ true → result.to_come worked.state (worked.left ++ rest) ≡ result.end worked.state)
    comes = by.next last way.state (way.left ++ bytes) input.lent rest rest_none lends here

    next_same : result.after (way.put ++ worked.put) (result.to_come worked.state (worked.left ++ rest)) ≡ result.to_come start file
    next_same =
        by.joined way.put worked.put (result.to_come worked.state (worked.left ++ rest))
        ∙ ap (result.after way.put) (sym comes.0)
        ∙ rw all_there sound.same

    next_finished : nothing_left worked.over last (length worked.left) ≡ true
        → result.to_come worked.state (worked.left ++ rest) ≡ result.end worked.state
    next_finished e = go worked.over refl e
      where
        go : (over : Bool) → worked.over ≡ over → nothing_left over last (length worked.left) ≡ true
            → result.to_come worked.state (worked.left ++ rest) ≡ result.end worked.state
        go true was h = comes.2 was
        go false was h =
            let tests = both last (eqb (length worked.left) 0) h in
            let none = no_bytes worked.left (eqb-true (length worked.left) 0 tests.1) in
            rw (none, rest_none tests.0) (by.at_end worked.state)

    -- what is not done
    not_done : nothing_left worked.over last (length worked.left) ≡ false
        → (worked.over ≡ false) × ((last && eqb (length worked.left) 0) ≡ false)
    not_done e = go worked.over refl e
      where
        go : (over : Bool) → worked.over ≡ over → nothing_left over last (length worked.left) ≡ false
            → (worked.over ≡ false) × ((last && eqb (length worked.left) 0) ≡ false)
        go true was h = zero_not_one (cc)
        go false was h = (was, h)

    next_more : nothing_left worked.over last (length worked.left) ≡ false
        → 1 ≤ 2 * length rest + length worked.left + end_to_find last
    next_more e = go last (not_done e).1
      where
        go : (b : Bool) → (b && eqb (length worked.left) 0) ≡ false → 1 ≤ 2 * length rest + length worked.left + end_to_find b
        go true h = let some_left = eqb-false (length worked.left) 0 h in omega arith
        go false h = omega arith

    next_sound : Sound next
    unfolding next_turn
    next_sound =
        record {
          ends = rest_none;
          holds = comes.1;
          same = next_same;
          finished = next_finished;
          more = next_more;
        }

    -- a turn that is not the end takes bytes, finds the end of the file, or leaves fewer bytes
    module _ (on : nothing_left worked.over last (length worked.left) ≡ false) where
      window_size : length (way.left ++ bytes) ≡ length way.left + length bytes
      window_size = length-append way.left bytes

      split_size : length bytes + length rest ≡ length way.unread
      split_size = sym (length-append bytes rest) ∙ ap length (read_split free input.more way.unread)

      left_over : length worked.left ≤ length way.left + length bytes
      left_over = omega (arith, by.most last way.state (way.left ++ bytes) input.lent, window_size)

      fewer : 1 ≤ length (way.left ++ bytes) → (last ≡ false → least ≤ length (way.left ++ bytes))
          → length worked.left < length (way.left ++ bytes)
      fewer one shows = by.less last way.state (way.left ++ bytes) input.lent rest lends here one shows (not_done on).0

      -- the file had ended
      after_end : way.last ≡ true → turns_left next < turns_left way
      unfolding next_turn
      after_end was =
          let ended : last ≡ true = ap (λ (b : Bool). file_ended b (length way.left) size (length bytes)) was in
          let stop : end_to_find last ≡ 0 = ap end_to_find ended in
          let stopped : end_to_find way.last ≡ 0 = ap end_to_find was in
          let some_left = eqb-false (length worked.left) 0 (sym (ap (λ (b : Bool). b && eqb (length worked.left) 0) ended) ∙ (not_done on).1) in
          let none = ap length (sound.ends was) in
          let one : 1 ≤ length (way.left ++ bytes) = omega (arith, left_over, window_size) in
          omega (arith, split_size, window_size, fewer one (λ e. zero_not_one (cc (ended, e))))

      -- the file has not ended, and bytes were read
      bytes_taken : way.last ≡ false → (length bytes ≡ 0 → ⊥) → turns_left next < turns_left way
      unfolding next_turn
      bytes_taken was some_bytes =
          let more : end_to_find way.last ≡ 1 = ap end_to_find was in
          omega (arith, split_size, left_over, at_most_one last)

      -- no byte was read though one has room: the file has ended
      end_found : way.last ≡ false → length bytes ≡ 0 → length way.left < size → turns_left next < turns_left way
      unfolding next_turn
      end_found was none has =
          let more : end_to_find way.last ≡ 1 = ap end_to_find was in
          let ended : last ≡ true = rw (was, lt-ltb (length way.left) size has, none) in
          let stop : end_to_find last ≡ 0 = ap end_to_find ended in
          omega (arith, split_size, left_over)

      -- the window is full, and so shows enough
      full_window : way.last ≡ false → length bytes ≡ 0 → size ≤ length way.left → turns_left next < turns_left way
      unfolding next_turn
      full_window was none full =
          let more : end_to_find way.last ≡ 1 = ap end_to_find was in
          let goes : last ≡ false = rw (was, le-ltb (length way.left) size full) in
          let stop : end_to_find last ≡ 1 = ap end_to_find goes in
          omega (arith, split_size, window_size, fewer (omega (arith, window_size)) (λ e. omega (arith, window_size)))

      progress : turns_left next < turns_left way
      progress = go way.last refl (eqb (length bytes) 0) refl (ltb (length way.left) size) refl
        where
          go : (was : Bool) → way.last ≡ was → (none : Bool) → eqb (length bytes) 0 ≡ none → (has : Bool)
              → ltb (length way.left) size ≡ has → turns_left next < turns_left way
          go true was none n has f = after_end was
          go false was false n has f = bytes_taken was (eqb-false (length bytes) 0 n)
          go false was true n true f = end_found was (eqb-true (length bytes) 0 n) (ltb-true (length way.left) size f)
          go false was true n false f = full_window was (eqb-true (length bytes) 0 n) (ltb-false (length way.left) size f)

  abbrev Ended : Way S → Type 0
  Ended way = (way.done ≡ true) × (result.after way.put (result.end way.state) ≡ result.to_come start file)

  -- where nothing is left to do, the work came to what it comes to
  ended : (way : Way S) → Sound way → way.done ≡ true → Ended way
  ended way sound done = (done, ap (result.after way.put) (sym (sound.finished done)) ∙ sound.same)

  all_done : (inputs : List TurnInput) (way : Way S) → Sound way → AllLend room inputs → (way.done ≡ false → turns_left way ≤ length inputs)
      → Ended (all_turns work size way inputs)
  unfolding all_turns next_turn
  all_done [] way sound lend few = go way.done refl
    where
      go : (b : Bool) → way.done ≡ b → Ended way
      go true e = ended way sound e
      go false e = absurd (omega (arith, few e, sound.more e))
  all_done (input ∷ inputs) way sound lend few =
      go way.done refl
      (λ on.
      all_done inputs (next_turn work size way input) (next_sound way input sound lend.0) lend.1
      (λ off. let less = progress way input sound lend.0 off in omega (arith, few on)))
    where
      go : (b : Bool) → way.done ≡ b → (way.done ≡ false → Ended (all_turns work size (next_turn work size way input) inputs))
          → Ended (cond b way (all_turns work size (next_turn work size way input) inputs))
      go true e later = ended way sound e
      go false e later = later e

  start_sound : Holds start file → Sound (way_from start file)
  start_sound holds =
      record {
        ends = λ e. zero_not_one (cc);
        holds = holds;
        same = by.nothing (result.to_come start file);
        finished = λ e. zero_not_one (cc);
        more = λ e. omega arith;
      }

pub however_read : HoweverRead
however_read S R work result Holds least room by start file size inputs holds some enough lend few =
    all_done work result Holds least room by start file size some enough inputs (way_from start file)
    (start_sound work result Holds least room by start file size some enough holds) lend (λ e. omega arith)
