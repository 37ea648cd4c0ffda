-- Laws of one record that is taken: what it comes to is the next of what is to come.
-- Assumes nothing.
use mathlib.Core.Path.{◌≡◌, refl, sym, ap, ◌∙◌}
use mathlib.Core.Bool.{Bool, true, false, cond, ◌&&◌}
use mathlib.Core.List.{List, [], ◌++◌}
use Prim.Native.Nat.{ℕ, ◌+◌, ◌-◌, ◌^◌, ◌≤◌, ◌<◌}
use native.Mathlib.Nat.{min-eq_left}
use native.Mathlib.Omega.{arith}
use borrow.Author.Tests.{ne_eqb}
use lib.Dec.{eqb}
use lib.ListN.{length, get_or, drop, length-append}
use lib.Seq.{take-append_seam}
use Rattle.std.specs.Prelude.{Option, Some, None}
use Rattle.streams.specs.Streams.{number_or_0}
use Rattle.laws.specs.Reply.{Reply, refused, refused_with, refused_at, given, and_then}
use Rattle.laws.specs.Elements.{AreBytes}
use Rattle.laws.proofs.Buffers.{read_written}
use Rattle.laws.proofs.Elements.{below_from, below_to}
use Rattle.registers.specs.declared.power_up.PowerUp.{PowerUp}
use Rattle.hub.specs.Hubs.{is_hub_address}
use Rattle.trace.specs.Framing.{record_length, data_of}
use Rattle.trace.specs.Records.{TraceRecord, hub_record, write_record, read_record, write_question, read_question, start_record, end_record, pixel_line_record, record_of}
use Rattle.trace.proofs.KindLaws.{by_record}
use Rattle.trace.proofs.WindowLaws.{rest_less, shows, some_left, same_next}
use Rattle.tracewrites.specs.declared.TraceRefusal.{TraceRefusal}
use Rattle.tracewrites.specs.declared.NextRecord.{NextRecord}
use Rattle.tracewrites.specs.TraceWrites.{TraceWrites, with_hub, with_burst, at_record, after_asked, after_record, after_records}
use Rattle.tracewrites.specs.RecordTurns.{trace_refusal_number, is_trace_refusal, next_record_number, refused_number, most_values, Taken, taken_with, not_passed, passed_as}
use Rattle.tracewrites.specs.RecordTurns.{taken_hub, take_asked, take_found, take_record}
use Rattle.tracewrites.specs.WriteFiles.{with_given, WritesRun}
use Rattle.tracewrites.proofs.TakeLaws.{few_values}
use Rattle.tracewrites.proofs.WritesLaws.{records_join}

and_false : (b : Bool) → (b && false) ≡ false
and_false true = refl
and_false false = refl

-- the reply that is still to come, with those bytes of the trace left
abbrev pub to_come : WritesRun → List ℕ → Reply TraceWrites
to_come run left =
    cond (is_trace_refusal run.refusal) (refused_at (number_or_0 trace_refusal_number run.refusal) (refused_number run.refusal run.records))
    (cond (eqb run.records 0 && eqb (length left) 0) (refused_at 13 0) (after_records (length left) run.records run.found left))

-- what is known of the bytes that are still to come: the number of a record has room for them
pub record Known (run : WritesRun) (bytes : List ℕ) : Type 0 where
  pub small : AreBytes bytes
  pub counts : run.records + length bytes < 2 ^ 64

-- the run after a record
abbrev pub run_after : WritesRun → Taken → WritesRun
run_after run taken =
    record { records = taken.result.records; refusal = taken.result.refusal; found = with_given run.found taken.result.next taken.values }

-- A record that is taken is refused, or passed.
pub data TakenAs (records : ℕ) (left lent : List ℕ) : Taken → Type 0 where
  as_refused : (refusal : Option TraceRefusal) → is_trace_refusal refusal ≡ true → TakenAs records left lent (taken_with (not_passed records refusal) lent)
  as_passed : (next : NextRecord) (values : List ℕ) → TakenAs records left lent (taken_with (passed_as records left next) values)

module _ (records : ℕ) (left lent : List ℕ) where
  hub_as : (address : ℕ) (start : PowerUp) (allowed : Bool)
      → TakenAs records left lent (taken_with (cond allowed (passed_as records left (NextRecord.Hub address start)) (not_passed records (Some TraceRefusal.AddressOutOfRange))) lent)
  hub_as address start true = as_passed (NextRecord.Hub address start) lent
  hub_as address start false = as_refused (Some TraceRefusal.AddressOutOfRange) refl

  asked_as : (asked : TraceRecord) → TakenAs records left lent (take_asked records left lent asked)
  unfolding take_asked taken_hub
  asked_as (hub_record address start) = hub_as address start (is_hub_address address)
  asked_as (write_record offset values) = as_passed _ _
  asked_as (read_record offset) = as_passed _ _
  asked_as (write_question address) = as_passed _ _
  asked_as (read_question address) = as_passed _ _
  asked_as (start_record port bits) = as_passed _ _
  asked_as (end_record port) = as_passed _ _
  asked_as (pixel_line_record port width pixel) = as_passed _ _

  pub taken_as : TakenAs records left lent (take_record records left lent)
  unfolding take_record
  taken_as = go (record_of (eqb records 0) left)
    where
      go : (found : Reply TraceRecord) → TakenAs records left lent (take_found records left lent found)
      go (refused_with number detail) = as_refused (Some TraceRefusal.MalformedRecord) refl
      go (given asked) = asked_as asked

-- a record that may be taken, whatever follows the window in the trace (at its end, nothing)
module _ (last : Bool) (run : WritesRun) (left lent rest : List ℕ) (ends : last ≡ true → rest ≡ []) (room : most_values ≤ length lent)
    (shown : shows last left ≡ true) (known : Known run (left ++ rest)) where
  abbrev first : Bool
  first = eqb run.records 0

  abbrev later : List ℕ
  later = drop (record_length left) left ++ rest

  some_more : 1 ≤ length (left ++ rest)
  some_more = omega (arith, some_left last left shown, length-append left rest)

  -- its number
  number : next_record_number run.records ≡ run.records + 1
  number = min-eq_left {n = run.records + 1} {m = 2 ^ 64 - 1} (omega (arith, known.counts, some_more))

  small_length : get_or left 3 0 < 256
  small_length = (rw (take-append_seam left rest) at (below_to 256 (length left) (left ++ rest) known.small)) 3

  -- what a record that is found comes to is what is to come after it
  abbrev Comes : Reply TraceRecord → Type 0
  Comes found =
      let taken = take_found run.records left lent found in
      and_then (after_record run.found (run.records + 1) found) (λ after. after_records (length later) (run.records + 1) after later)
      ≡ to_come (run_after run taken) (drop taken.result.used left ++ rest)

  -- one that is passed
  passed_on : (found : TraceWrites)
      → after_records (length later) (run.records + 1) found later
      ≡ to_come
      (record { records = next_record_number run.records; refusal = None; found = found }) later
  passed_on found = rw (number, ne_eqb (run.records + 1) 0 (λ z. omega arith))

  comes_hub : (address : ℕ) (start : PowerUp) → Comes (given (hub_record address start))
  unfolding after_asked take_asked taken_hub
  comes_hub address start = go (is_hub_address address)
    where
      go : (allowed : Bool)
          → let taken = taken_with (cond allowed (passed_as run.records left (NextRecord.Hub address start)) (not_passed run.records (Some TraceRefusal.AddressOutOfRange))) lent in
          and_then (at_record (run.records + 1) (cond allowed (given (with_hub address start run.found)) (refused 2))) (λ after. after_records (length later) (run.records + 1) after later)
          ≡ to_come (run_after run taken) (drop taken.result.used left ++ rest)
      go true = passed_on (with_hub address start run.found)
      go false = rw number

  comes_write : Comes (given (write_record (get_or (data_of left) 0 0) (drop 1 (data_of left))))
  unfolding after_asked take_asked
  comes_write =
      let values = drop 1 (data_of left) in
      let few = few_values left small_length in
      let offset = get_or (data_of left) 0 0 in
      let back = read_written lent 0 values (omega arith) in
      rw (back, number) (rw number at (passed_on (with_burst (run.records + 1) offset values run.found)))

  comes : Comes (record_of first left)
  unfolding after_asked take_asked
  comes =
      let on = passed_on run.found in
      by_record Comes (rw number) first left (λ e. comes_hub (get_or (data_of left) 0 0)) comes_write on on on on on on

  -- what is to come is what is to come after the record
  pub one_comes : is_trace_refusal run.refusal ≡ false →
      let taken = take_record run.records left lent in
      to_come run (left ++ rest) ≡ to_come (run_after run taken) (drop taken.result.used left ++ rest)
  unfolding take_record
  one_comes on =
      let same = same_next last first left rest ends shown in
      let start : to_come run (left ++ rest) ≡ after_records (length (left ++ rest)) run.records run.found (left ++ rest) =
      rw (on, ne_eqb (length (left ++ rest)) 0 (λ z. omega (arith, some_more)), and_false first) in
      start ∙ rw (same.found, same.after) at (records_join run.records run.found (left ++ rest) some_more) ∙ comes

  pub one_known : let taken = take_record run.records left lent in Known (run_after run taken) (drop taken.result.used left ++ rest)
  one_known = go (taken_as run.records left lent)
    where
      go : {taken : Taken} → TakenAs run.records left lent taken → Known (run_after run taken) (drop taken.result.used left ++ rest)
      go (as_refused _ e) = record { small = known.small; counts = known.counts }
      go (as_passed next values) =
          let same = same_next last first left rest ends shown in
          let fewer = ap length (sym same.after) in
          let less = rest_less (left ++ rest) some_more in
          record {
            small = rw same.after at (below_from 256 (record_length (left ++ rest)) (left ++ rest) known.small);
            counts = omega (arith, number, known.counts);
          }
