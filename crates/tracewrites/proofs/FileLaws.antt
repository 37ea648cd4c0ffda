-- A trace's records may be taken window by window, so that however it is read its writes, or its refusal, come out.
-- Assumes nothing.
use mathlib.Core.Path.{◌≡◌, refl, ap, ◌∙◌}
use mathlib.Core.Bool.{Bool, true, false, cond, not, ◌&&◌}
use mathlib.Core.List.{List, [], ◌∷◌, ◌++◌, append-nil}
use Prim.Native.Nat.{ℕ, ◌≤◌, ◌<◌}
use native.Mathlib.Omega.{arith}
use borrow.Author.Tests.{le-leb, ne_eqb, not-true}
use lib.Dec.{eqb}
use lib.ListN.{length, drop, length-drop, get_or-append}
use Rattle.std.specs.Prelude.{Option, Some}
use Rattle.laws.specs.Reply.{Reply}
use Rattle.laws.proofs.Absurd.{zero_not_one}
use Rattle.laws.proofs.Bools.{both}
use Rattle.streams.specs.Streams.{nothing_left, Worked, Way, way_from, TurnInput, next_turn, all_turns, Result, ByWindows}
use Rattle.streams.proofs.StreamLaws.{however_read}
use Rattle.trace.specs.Framing.{longest_record}
use Rattle.trace.proofs.RecordLaws.{longest_record_lem}
use Rattle.trace.proofs.WindowLaws.{rest_less, shows}
use Rattle.tracewrites.specs.declared.TraceRefusal.{TraceRefusal}
use Rattle.tracewrites.specs.TraceWrites.{TraceWrites, after_records, trace_writes}
use Rattle.tracewrites.specs.RecordTurns.{is_trace_refusal, next_record_number, most_values, may_take_record, Taken, taken_with, not_passed, take_record, refusal_then, take_next}
use Rattle.tracewrites.specs.WriteFiles.{WritesRun, new_writes_run, taking_trace_writes, end_of_run}
use Rattle.tracewrites.specs.WriteFiles.{TraceWritesHoweverCut}
use Rattle.tracewrites.proofs.TakeLaws.{tests}
use Rattle.tracewrites.proofs.RecordLaws.{to_come, Known, run_after, TakenAs, as_refused, as_passed, taken_as, one_comes, one_known}

-- nothing is put out: what was put changes nothing
abbrev writes_result : Result WritesRun (Reply TraceWrites)
writes_result = record { to_come = to_come; after = λ put reply. reply; end = λ run. to_come run [] }

-- the run with that refusal
abbrev refusing : WritesRun → Option TraceRefusal → WritesRun
refusing run refusal = record { records = run.records; refusal = refusal; found = run.found }

-- a record was passed, or the trace is refused
abbrev settled : WritesRun → Bool
settled run = cond (is_trace_refusal run.refusal) true (not (eqb run.records 0))

-- after a refusal nothing is to come
over_end : (run : WritesRun) (left : List ℕ) → is_trace_refusal run.refusal ≡ true → to_come run left ≡ to_come run []
over_end run left e = rw e

-- a window of a file in a state
module _ (last : Bool) (run : WritesRun) (bytes lent : List ℕ) where
  abbrev after : Worked WritesRun
  after = taking_trace_writes last run bytes lent

  abbrev none : Taken
  none = taken_with (not_passed run.records (refusal_then run.records run.refusal (length bytes) last)) lent

  -- by the test whether there is a record to take
  by_test : (P : Taken → Type 0) → (may_take_record run.refusal bytes last (length lent) ≡ true → P (take_record run.records bytes lent))
      → (may_take_record run.refusal bytes last (length lent) ≡ false → P none) → P (take_next last run.records run.refusal bytes lent)
  unfolding take_next
  by_test P one stays = go (may_take_record run.refusal bytes last (length lent)) refl
    where
      go : (b : Bool) → may_take_record run.refusal bytes last (length lent) ≡ b → P (cond b (take_record run.records bytes lent) none)
      go true e = one e
      go false e = stays e

  -- by the test whether the trace is empty
  abbrev is_empty : Bool
  is_empty = not (is_trace_refusal run.refusal) && eqb run.records 0 && nothing_left false last (length bytes)

  by_empty : (P : Option TraceRefusal → Type 0) → (is_empty ≡ true → P (Some TraceRefusal.EmptyTrace)) → (is_empty ≡ false → P run.refusal)
      → P (refusal_then run.records run.refusal (length bytes) last)
  unfolding refusal_then
  by_empty P empty stays = go is_empty refl
    where
      go : (b : Bool) → is_empty ≡ b → P (cond b (Some TraceRefusal.EmptyTrace) run.refusal)
      go true e = empty e
      go false e = stays e

  -- no more is left than there was
  left_most : length after.left ≤ length bytes
  left_most = omega (arith, length-drop (take_next last run.records run.refusal bytes lent).result.used bytes)

  module _ (rest : List ℕ) (known : Known run (bytes ++ rest)) where
    -- what is to come, and what is known of it
    module _ (ends : last ≡ true → rest ≡ []) where
      abbrev Next : Taken → Type 0
      Next taken =
          let left = drop taken.result.used bytes ++ rest in
          (to_come run (bytes ++ rest) ≡ to_come (run_after run taken) left) × Known (run_after run taken) left

      -- no record is taken
      none_next : Next none
      none_next =
          by_empty
          (λ refusal. (to_come run (bytes ++ rest) ≡ to_come (refusing run refusal) (bytes ++ rest)) × Known (refusing run refusal) (bytes ++ rest))
          (λ e.
          let outer = both (not (is_trace_refusal run.refusal) && eqb run.records 0) (nothing_left false last (length bytes)) e in
          let inner = both (not (is_trace_refusal run.refusal)) (eqb run.records 0) outer.0 in
          let ended = both last (eqb (length bytes) 0) outer.1 in
          let nothing : eqb (length (bytes ++ rest)) 0 ≡ true = rw (ends ended.0, append-nil bytes) ended.1 in
          (rw (not-true (is_trace_refusal run.refusal) inner.0, inner.1, nothing), record { small = known.small; counts = known.counts }))
          (λ e. (refl, record { small = known.small; counts = known.counts }))

      next : Next (take_next last run.records run.refusal bytes lent)
      next =
          by_test Next
          (λ may.
          let told = tests run.refusal bytes last (length lent) may in
          (one_comes last run bytes lent rest ends told.room told.shown known told.on, one_known last run bytes lent rest ends told.room told.shown known))
          (λ may. none_next)

    shown : 1 ≤ length bytes → (last ≡ false → longest_record ≤ length bytes) → (b : Bool) → last ≡ b → shows b bytes ≡ true
    shown one long true e = ap not (ne_eqb (length bytes) 0 (λ z. absurd (omega arith)))
    shown one long false e =
        let enough = long e in
        longest_record_lem bytes (rw (get_or-append bytes rest 0 3 (omega arith)) at (known.small 3)) enough

    -- less is left, where a record may be taken and is not refused
    fewer : most_values ≤ length lent → 1 ≤ length bytes → (last ≡ false → longest_record ≤ length bytes) → after.over ≡ false
        → length after.left < length bytes
    unfolding may_take_record
    fewer room one long =
        by_test (λ taken. is_trace_refusal taken.result.refusal ≡ false → length (drop taken.result.used bytes) < length bytes)
        (λ may. go (taken_as run.records bytes lent))
        (λ may.
        by_empty (λ refusal. is_trace_refusal refusal ≡ false → length bytes < length bytes) (λ e on. zero_not_one (cc))
        (λ e on. let may-not = rw (on, le-leb most_values (length lent) room, shown one long last refl) at may in zero_not_one (cc)))
      where
        go : {taken : Taken} → TakenAs run.records bytes lent taken → is_trace_refusal taken.result.refusal ≡ false
            → length (drop taken.result.used bytes) < length bytes
        go (as_refused _ e) on = zero_not_one (cc)
        go (as_passed next values) on = omega (arith, rest_less bytes one)

  -- where nothing is left to do, a record was passed or the trace is refused
  settles : nothing_left after.over last (length after.left) ≡ true → settled after.state ≡ true
  settles =
      by_test
      (λ taken. nothing_left (is_trace_refusal taken.result.refusal) last (length (drop taken.result.used bytes)) ≡ true → settled (run_after run taken) ≡ true)
      (λ may. go (taken_as run.records bytes lent))
      (λ may.
      by_empty
      (λ refusal.
      nothing_left (is_trace_refusal refusal) last (length bytes) ≡ true → settled (refusing run refusal) ≡ true)
      (λ e done. refl) (λ e done. stays (is_trace_refusal run.refusal) refl (eqb run.records 0) refl e done))
    where
      go : {taken : Taken} → TakenAs run.records bytes lent taken
          → nothing_left (is_trace_refusal taken.result.refusal) last (length (drop taken.result.used bytes)) ≡ true → settled (run_after run taken) ≡ true
      go (as_refused _ e) done = rw e
      go (as_passed next values) done = ap not (ne_eqb (next_record_number run.records) 0 (λ z. omega arith))

      stays : (refused : Bool) → is_trace_refusal run.refusal ≡ refused → (first : Bool) → eqb run.records 0 ≡ first → is_empty ≡ false
          → nothing_left (is_trace_refusal run.refusal) last (length bytes) ≡ true → settled run ≡ true
      stays true r first f e done = rw r
      stays false r false f e done = rw (r, f)
      stays false r true f e done =
          let not-empty = rw (r, f) at e in
          let left = rw r at done in
          zero_not_one (cc)

by_windows : ByWindows taking_trace_writes writes_result Known longest_record most_values
by_windows =
    record {
      joined = λ a b r. refl;
      nothing = λ r. refl;
      at_end = λ run. refl;
      next =
          λ last run bytes lent rest ends room known.
          let worked = taking_trace_writes last run bytes lent in
          let both = next last run bytes lent rest known ends in
          (both.0, both.1, over_end worked.state (worked.left ++ rest));
      most = left_most;
      less = λ last run bytes lent rest room known one long on. fewer last run bytes lent rest known room one long on;
    }

-- where the turns are done, a record was passed or the trace is refused
all_settled : (size : ℕ) (inputs : List TurnInput) (way : Way WritesRun) → (way.done ≡ true → settled way.state ≡ true)
    → let end = all_turns taking_trace_writes size way inputs in
    end.done ≡ true → settled end.state ≡ true
unfolding all_turns next_turn
all_settled size [] way so = so
all_settled size (input ∷ inputs) way so =
    go way.done (all_settled size inputs (next_turn taking_trace_writes size way input) (settles _ way.state _ input.lent))
  where
    end : Way WritesRun
    end = all_turns taking_trace_writes size (next_turn taking_trace_writes size way input) inputs

    go : (b : Bool) → (end.done ≡ true → settled end.state ≡ true) → (cond b way end).done ≡ true → settled (cond b way end).state ≡ true
    go true later = so
    go false later = later

-- then the end is what the run comes to
settled_end : (run : WritesRun) → settled run ≡ true → end_of_run run ≡ to_come run []
unfolding after_records
settled_end run e = go (is_trace_refusal run.refusal) refl (eqb run.records 0) refl
  where
    go : (refused : Bool) → is_trace_refusal run.refusal ≡ refused → (first : Bool) → eqb run.records 0 ≡ first → end_of_run run ≡ to_come run []
    go true r first f = rw r
    go false r false f = rw (r, f)
    go false r true f = let not-settled = rw (r, f) at e in zero_not_one (cc)

pub trace_writes_however_cut : TraceWritesHoweverCut
unfolding trace_writes
trace_writes_however_cut trace size inputs bytes small holds room few =
    let known : Known new_writes_run trace = record { small = bytes; counts = omega arith } in
    let start = way_from new_writes_run trace in
    let end = all_turns taking_trace_writes size start inputs in
    let both =
    however_read WritesRun (Reply TraceWrites) taking_trace_writes writes_result Known longest_record most_values by_windows new_writes_run trace size inputs known (omega arith) holds
    room few in
    record { done = both.0; writes = settled_end end.state (all_settled size inputs start (λ e. zero_not_one (cc)) both.0) ∙ both.1 }
