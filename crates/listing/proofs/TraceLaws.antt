-- Laws of a trace's calls: those of the records passed so far, and those from there on, record by record.
-- Assumes nothing.
use Rattle.std.proofs.Common.{◌≡◌, ℕ, zero, suc, ◌+◌, ◌<◌, ◌≤◌, Bool, true, false, cond, eqb, List, [], ◌++◌, length, drop, sym, refl, ap, ◌∙◌, append-nil, arith, length-drop, drop_of_length-le, drop-drop, eq-eqb, ne_eqb}
use mathlib.Core.Option.{Option}
use borrow.Author.Tests.{eqb-false}
use Rattle.laws.specs.Reply.{Reply, refused, refused_with, given}
use Rattle.laws.proofs.Replies.{then_given, on_given, joined_none, joined_twice}
use Rattle.registers.specs.Bursts.{RegisterWrite}
use Rattle.trace.specs.Framing.{record_length}
use Rattle.trace.specs.Records.{record_of}
use Rattle.trace.proofs.RecordLaws.{some_bytes, cut_short_lem}
use Rattle.listing.specs.Listing.{record_calls, followed_by, later_calls, trace_calls, left_calls, RecordsJoin}

-- There are no more records than bytes: with enough of them asked for, the calls are the same.
enough_calls : (n m : ℕ) (bytes : List ℕ) → length bytes ≤ n → length bytes ≤ m → later_calls n bytes ≡ later_calls m bytes
unfolding later_calls
enough_calls zero zero bytes h k = refl
enough_calls zero (suc m) bytes h k = rw (eq-eqb (length bytes) 0 (omega arith))
enough_calls (suc n) zero bytes h k = rw (eq-eqb (length bytes) 0 (omega arith))
enough_calls (suc n) (suc m) bytes h k = go (eqb (length bytes) 0) refl (enough_calls n m rest)
  where
    rest : List ℕ
    rest = drop (record_length bytes) bytes

    here : Reply (List RegisterWrite)
    here = record_calls (record_of false bytes)

    go : (b : Bool) → eqb (length bytes) 0 ≡ b → (length rest ≤ n → length rest ≤ m → later_calls n rest ≡ later_calls m rest)
        → cond b (given []) (followed_by here (later_calls n rest)) ≡ cond b (given []) (followed_by here (later_calls m rest))
    go true e ih = refl
    go false e ih =
        let some = eqb-false (length bytes) 0 e in
        let size = some_bytes bytes in
        let less = length-drop (record_length bytes) bytes in
        ap (followed_by here) (ih (omega arith) (omega arith))

-- the calls of what is left are those of the next record and of what is left after it
pub records_join : RecordsJoin
unfolding trace_calls later_calls
records_join true left h =
    let rest = drop (record_length left) left in
    let less = length-drop (record_length left) left in
    ap (followed_by (record_calls (record_of true left))) (enough_calls (length left) (length rest) rest (omega arith) (omega arith))
records_join false left h =
    let rest = drop (record_length left) left in
    let less = length-drop (record_length left) left in
    let here = record_calls (record_of false left) in
    enough_calls (length left) (suc (length left)) left (omega arith) (omega arith)
    ∙ ap (λ (b : Bool). cond b (given []) (followed_by here (later_calls (length left) rest))) (ne_eqb (length left) 0 (λ e. omega arith))
    ∙ ap (followed_by here) (enough_calls (length left) (length rest) rest (omega arith) (omega arith))

-- where nothing is left there are none
pub none_left_lem : (left : List ℕ) → length left ≡ 0 → left_calls false left ≡ given []
unfolding later_calls
none_left_lem left e = rw e

-- an empty trace has no first record
pub empty_trace : (trace : List ℕ) → length trace ≡ 0 → trace_calls trace ≡ refused 13
unfolding trace_calls
empty_trace trace e = rw (cut_short_lem true trace (omega (arith, some_bytes trace)))

-- the calls from a place on, where a record starts
abbrev calls_from : List ℕ → ℕ → Reply (List RegisterWrite)
calls_from trace from = left_calls (eqb from 0) (drop from trace)

-- The records up to a place were passed, with their calls: the trace's calls are those and the calls from there on.
pub record Passed (trace : List ℕ) (from : ℕ) (done : List RegisterWrite) : Type 0 where
  pub same : trace_calls trace ≡ followed_by (given done) (calls_from trace from)

pub passed_none : (trace : List ℕ) → Passed trace 0 []
passed_none trace = record { same = joined_none (trace_calls trace) }

module _ {trace : List ℕ} {from : ℕ} {done : List RegisterWrite} (passed : Passed trace from done) where
  -- the next record, where a byte is left
  module _ (left : List ℕ) (start : left ≡ drop from trace) (some : from < length trace) where
    next_record : trace_calls trace ≡ followed_by (given done) (followed_by (record_calls (record_of (eqb from 0) left)) (calls_from trace (from + record_length left)))
    next_record =
        let long = ap length start ∙ length-drop from trace in
        let size = some_bytes left in
        let later : eqb (from + record_length left) 0 ≡ false = ne_eqb (from + record_length left) 0 (λ z. omega arith) in
        passed.same ∙ rw (sym start, records_join (eqb from 0) left (omega arith), later, start, drop-drop (record_length (drop from trace)) from trace)

    -- it is refused
    pub passed_refused : {number : ℕ} {detail : Option ℕ} → record_calls (record_of (eqb from 0) left) ≡ refused_with number detail
        → trace_calls trace ≡ refused_with number detail
    passed_refused e = next_record ∙ rw e

    -- or passed, with its calls
    pub passed_more : {here : List RegisterWrite} → record_calls (record_of (eqb from 0) left) ≡ given here → Passed trace (from + record_length left) (done ++ here)
    passed_more {here} e = record { same = next_record ∙ rw e (joined_twice done here (calls_from trace (from + record_length left))) }

    -- it has calls, where the trace has
    pub next_given : {calls : List RegisterWrite} → trace_calls trace ≡ given calls
        → (here : List RegisterWrite) × (record_calls (record_of (eqb from 0) left) ≡ given here)
    next_given e =
        let both = on_given (λ (later : List RegisterWrite). done ++ later) _ (sym e ∙ next_record) in
        let first = then_given (record_calls (record_of (eqb from 0) left)) _ both.1 in
        (first.0, first.1)

  -- at the trace's end all records were passed
  pub passed_all : length trace ≤ from → (length trace ≡ 0 → ⊥) → trace_calls trace ≡ given done
  unfolding later_calls
  passed_all h some =
      passed.same ∙ rw (ne_eqb from 0 (λ e. some (omega arith)), drop_of_length-le trace {i = from} h) (ap given (append-nil done))
