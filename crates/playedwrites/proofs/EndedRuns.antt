-- A trace is refused exactly where the player's run ends early, and has writes exactly where it does not.
-- Assumes nothing.
use mathlib.Core.Path.{◌≡◌, refl, sym, ap, ◌∙◌}
use mathlib.Core.Bool.{Bool, true, false}
use mathlib.Core.List.{List, [], ◌∷◌, ◌++◌}
use mathlib.Core.Option.{Option, some}
use Prim.Native.Nat.{ℕ, ◌+◌, ◌≤◌}
use native.Mathlib.Omega.{arith}
use borrow.Author.Tests.{eqb-true, eqb-false}
use lib.Dec.{eqb}
use lib.ListN.{length, replicate, length-append}
use Rattle.laws.specs.Reply.{Reply, refused_with, refused, refused_at, given}
use Rattle.laws.proofs.Absurd.{zero_not_one}
use Rattle.registers.specs.declared.power_up.PowerUp.TheVariants.{Boot}
use Rattle.hub.specs.Hubs.{hub_at}
use Rattle.tracewrites.specs.TraceWrites.{TraceWrites, trace_writes}
use Rattle.answers.specs.Answers.{Answer}
use Rattle.playback.specs.Playing.{PlayedRecords, packet_room, play_file, answers_of}
use Rattle.playback.proofs.PlayingLaws.{no_records}
use Rattle.playedwrites.specs.PlayedWrites.{ends_run, RunEndsAt, RefusedWhereRunEnds, EndedRunRefused}
use Rattle.playedwrites.specs.PlayedWrites.{RunGoesOn, TakenExactly}
use Rattle.playedwrites.proofs.Endings.{NoneEnds}
use Rattle.playedwrites.proofs.PlayedLaws.{Refused, Ends, trace_ends, some_byte}

from_zero : (count : ℕ) → 0 + count + 1 ≡ count + 1
from_zero count = omega arith

module _ (trace : List ℕ) where
  -- a trace that is refused: its detail is the number of the record that ends the run
  ended : (refusal number : ℕ) (detail : Option ℕ) → detail ≡ some number → Refused 0 refusal detail (play_file trace)
      → RunEndsAt trace refusal number
  ended refusal number detail d end =
      let same : some number ≡ some (0 + length end.earlier + 1) = sym d ∙ end.count in
      let count : number ≡ 0 + length end.earlier + 1 = cc in
      record {
        earlier = end.earlier;
        answers = end.answers;
        count = count ∙ from_zero (length end.earlier);
        ending = ap (ends_run refusal) count ∙ end.ending;
      }

pub refused_where_run_ends : RefusedWhereRunEnds
refused_where_run_ends trace refusal number h e =
    ended trace refusal number (some number) refl (rw e at (trace_ends trace h))

-- the last answer of two lists that are equal
last_same : {A : Type 0} (a b : List A) (x y : A) → a ++ (x ∷ []) ≡ b ++ (y ∷ []) → (length a ≡ length b) × (x ≡ y)
last_same [] [] x y e = (refl, cc)
last_same [] (v ∷ b) x y e = let l = simp length-append at (ap length e) in absurd (omega arith)
last_same (u ∷ a) [] x y e = let l = simp length-append at (ap length e) in absurd (omega arith)
last_same (u ∷ a) (v ∷ b) x y e =
    let rest : a ++ (x ∷ []) ≡ b ++ (y ∷ []) = cc in
    let same = last_same a b x y rest in
    (omega arith, same.1)

-- the last of answers of which none ends the run
last_not_ending : (records refusal : ℕ) (earlier : List (Reply Answer))
    → NoneEnds records (earlier ++ (refused refusal ∷ [])) → ends_run refusal (records + length earlier + 1) ≡ false
last_not_ending records refusal [] n =
    let same : records + 0 + 1 ≡ records + 1 = omega arith in
    ap (ends_run refusal) same ∙ n.0
last_not_ending records refusal (answer ∷ earlier) n =
    let same : records + length (answer ∷ earlier) + 1 ≡ records + 1 + length earlier + 1 = omega arith in
    ap (ends_run refusal) same ∙ last_not_ending (records + 1) refusal earlier n.1

-- a trace that has an answer has a byte
answered_byte : (trace : List ℕ) (earlier : List (Reply Answer)) (last : Reply Answer)
    → answers_of trace ≡ earlier ++ (last ∷ []) → 1 ≤ length trace
answered_byte trace earlier last e = go (eqb (length trace) 0) refl
  where
    go : (b : Bool) → eqb (length trace) 0 ≡ b → 1 ≤ length trace
    go true z =
        let zero = eqb-true (length trace) 0 z in
        let none = no_records (length trace) true (hub_at Boot 0x08) (replicate packet_room 0) trace zero in
        let empty : [] ≡ earlier ++ (last ∷ []) = sym (ap (λ (p : PlayedRecords). p.answers) none) ∙ e in
        let l = simp length-append at (ap length empty) in
        absurd (omega arith)
    go false z = let ne = eqb-false (length trace) 0 z in omega arith

pub ended_run_refused : EndedRunRefused
ended_run_refused trace refusal number r =
    go (trace_writes trace) (trace_ends trace (answered_byte trace r.earlier (refused refusal) r.answers))
  where
    go : (reply : Reply TraceWrites) → Ends 0 reply (play_file trace) → reply ≡ refused_at refusal number
    go (given after) end =
        let on = last_not_ending 0 refusal r.earlier (rw r.answers at end.going) in
        let off = ap (ends_run refusal) (from_zero (length r.earlier) ∙ sym r.count) ∙ r.ending in
        let z : true ≡ false = sym off ∙ on in
        zero_not_one (cc)
    go (refused_with other detail) end =
        let lists = sym r.answers ∙ end.answers in
        let same = last_same r.earlier end.earlier (refused refusal) (refused other) lists in
        let equal : 0 + length end.earlier + 1 ≡ number = omega (arith, r.count, same.0) in
        let number_same : detail ≡ some number = end.count ∙ ap some equal in
        let refusal_same : other ≡ refusal = cc in
        rw (number_same, refusal_same)

pub taken_exactly : TakenExactly
taken_exactly trace =
    record {
      only = λ writes e. (
        some_byte trace e,
        λ refusal number r.
            let z = sym (ended_run_refused trace refusal number r) ∙ e in zero_not_one (cc),
      );
      every = λ h on. go (trace_writes trace) (trace_ends trace h) on;
    }
  where
    go : (reply : Reply TraceWrites) → Ends 0 reply (play_file trace) → RunGoesOn trace
        → (writes : TraceWrites) × (reply ≡ given writes)
    go (given writes) end on = (writes, refl)
    go (refused_with refusal detail) end on = absurd (on refusal _ (ended trace refusal _ detail end.count end))
