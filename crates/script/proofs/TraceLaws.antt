-- The trace of calls: its records one after the other, and its length.
-- Assumes nothing.
use mathlib.Core.Path.{◌≡◌, refl, sym}
use mathlib.Core.Bool.{true, false}
use mathlib.Core.List.{List, [], ◌∷◌, ◌++◌, append_assoc}
use Prim.Native.Nat.{ℕ, ◌+◌, ◌*◌}
use native.Mathlib.Nat.{zero-add}
use native.Mathlib.Omega.{arith}
use lib.ListN.{length, drop}
use Rattle.laws.specs.Reply.{given}
use Rattle.laws.specs.Buffers.{has_room}
use Rattle.trace.specs.Framing.{record_length, record_bytes}
use Rattle.trace.specs.Records.{hub_data, hub_record, write_record, record_of}
use Rattle.trace.proofs.RecordLaws.{hub_back, write_back, rest_back}
use Rattle.registers.specs.Bursts.{RegisterWrite}
use Rattle.registers.specs.declared.power_up.PowerUp.{PowerUp}
use Rattle.registers.specs.declared.power_up.PowerUp.TheVariants.{Boot, Reset}
use Rattle.script.specs.Traces.{write_records, trace_of, hub_length}

-- the records of some calls, and of more
pub writes_append : (here later : List RegisterWrite) → write_records (here ++ later) ≡ write_records here ++ write_records later
unfolding write_records
writes_append [] later = refl
writes_append (call ∷ here) later =
    rw (writes_append here later) (sym (append_assoc (record_bytes 0x01 (call.offset ∷ call.value ∷ [])) (write_records here) (write_records later)))

-- a write record has 6 bytes
pub writes_length : (calls : List RegisterWrite) → length (write_records calls) ≡ 6 * length calls
unfolding write_records
writes_length [] = refl
writes_length (call ∷ calls) = let rest = writes_length calls in omega arith

-- and the hub record 5 or 6
pub trace_length : (address : ℕ) (start : PowerUp) (calls : List RegisterWrite)
    → length (trace_of address start calls) ≡ hub_length start + 6 * length calls
unfolding trace_of
trace_length address Boot calls = let rest = writes_length calls in omega arith
trace_length address Reset calls = let rest = writes_length calls in omega arith

-- the record at the start of a trace and of what follows it, and what comes after that record
module _ (address : ℕ) (start : PowerUp) (calls : List RegisterWrite) where
  pub trace_first : record_of true (trace_of address start calls) ≡ given (hub_record address start)
  unfolding trace_of
  trace_first = hub_back address start (write_records calls)

  pub trace_rest : drop (record_length (trace_of address start calls)) (trace_of address start calls) ≡ write_records calls
  unfolding trace_of
  trace_rest = rest_back 0x00 (hub_data address start) (write_records calls)

module _ (call : RegisterWrite) (calls : List RegisterWrite) where
  pub writes_first : record_of false (write_records (call ∷ calls)) ≡ given (write_record call.offset (call.value ∷ []))
  unfolding write_records
  writes_first = write_back call.offset call.value (write_records calls)

  pub writes_rest : drop (record_length (write_records (call ∷ calls))) (write_records (call ∷ calls)) ≡ write_records calls
  unfolding write_records
  writes_rest = rest_back 0x01 (call.offset ∷ call.value ∷ []) (write_records calls)

-- so a trace has room where as many calls have
pub trace_room : (address : ℕ) (start : PowerUp) (size : ℕ) (calls : List RegisterWrite)
    → has_room size 0 (length (trace_of address start calls)) ≡ has_room size (hub_length start) (6 * length calls)
trace_room address start size calls = rw (trace_length address start calls, zero-add (hub_length start + 6 * length calls))
