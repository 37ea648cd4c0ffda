-- The calls of a trace, written one by one to the hub that it makes, end where the trace ends; and the trace of calls has those calls.
-- Assumes nothing.
use mathlib.Core.Path.{◌≡◌, refl, sym, ap, ◌∙◌}
use mathlib.Core.Bool.{Bool, true, false}
use mathlib.Core.List.{List, [], ◌∷◌, ◌++◌}
use Prim.Native.Nat.{ℕ, zero, suc, ◌≤◌}
use native.Mathlib.Omega.{arith}
use borrow.Author.Tests.{eqb-true, eqb-false}
use lib.Dec.{eqb}
use lib.ListN.{length, get_or, drop, replicate}
use Rattle.laws.specs.Reply.{given}
use Rattle.laws.specs.Elements.{AreBytes}
use Rattle.laws.proofs.Elements.{below_from}
use Rattle.laws.proofs.Replies.{given_same, then_given, on_given}
use Rattle.registers.specs.declared.PageAccess.TheVariants.{Selection}
use Rattle.registers.specs.declared.power_up.PowerUp.{PowerUp}
use Rattle.registers.specs.declared.power_up.PowerUp.TheVariants.{Boot}
use Rattle.registers.specs.Bursts.{RegisterWrite, write_each}
use Rattle.registers.proofs.Bursts.{burst_one, writes_none, writes_append}
use Rattle.registers.proofs.ByteWrites.{AreByteWrites, burst_bytes, more_bytes}
use Rattle.hub.specs.declared.Hub.{Hub}
use Rattle.hub.specs.Hubs.{hub_with, hub_at, is_hub_address, with_registers, hub_burst}
use Rattle.hub.proofs.Hubs.{burst_registers}
use Rattle.trace.specs.Framing.{record_length, data_of}
use Rattle.trace.specs.Records.{hub_record, record_of}
use Rattle.trace.proofs.RecordLaws.{some_bytes, given_whole, data_bytes}
use Rattle.trace.proofs.WindowLaws.{rest_less}
use Rattle.script.specs.Traces.{write_records, trace_of}
use Rattle.script.proofs.TraceLaws.{writes_length, trace_length, trace_first, trace_rest, writes_first, writes_rest}
use Rattle.listing.specs.Listing.{record_calls, trace_calls, left_calls}
use Rattle.listing.proofs.RecordLaws.{hub_calls, write_calls}
use Rattle.listing.proofs.TraceLaws.{records_join, none_left_lem}
use Rattle.playback.specs.Playing.{play_records, packet_room}
use Rattle.playback.proofs.RecordPlays.{hub_played, write_played}
use Rattle.playback.proofs.PlayingLaws.{no_records, next_record}
use Rattle.roundtrip.specs.PlayedCalls.{CallsArePlayed}

-- the hub after some writes of one value
abbrev pub hub_writes : Hub → List RegisterWrite → Hub
hub_writes hub writes = with_registers hub (write_each Selection hub.registers writes)

-- The calls of some records after the first: they are bytes where the records are, and from any hub they end where the records end.
record Runs (bytes : List ℕ) (calls : List RegisterWrite) : Type 0 where
  small : AreBytes bytes → AreByteWrites calls
  end : (hub : Hub) (packets : List ℕ) → (play_records (length bytes) false hub packets bytes).hub ≡ hub_writes hub calls

-- no byte is left
none_runs : (bytes : List ℕ) → length bytes ≡ 0 → {calls : List RegisterWrite} → left_calls false bytes ≡ given calls → Runs bytes calls
none_runs bytes none e =
    rw (given_same e (none_left_lem bytes none))
    (record { small = λ b. tt; end = λ hub packets. rw (no_records (length bytes) false hub packets bytes none, writes_none) })

-- a record that has calls is a write, and what follows it runs
module _ (bytes : List ℕ) {here later : List RegisterWrite} (some : 1 ≤ length bytes) (calls : record_calls (record_of false bytes) ≡ given here)
    (rest : Runs (drop (record_length bytes) bytes) later) where
  write_runs : Runs bytes (here ++ later)
  write_runs =
      let d = data_of bytes in
      let write = write_calls bytes calls in
      record {
        small = λ small.
            let own = data_bytes bytes small in
            more_bytes here later (rw write.1 at (burst_bytes (get_or d 0 0) (drop 1 d) (own 0) (below_from 256 1 d own)))
            (rest.small (below_from 256 (record_length bytes) bytes small));
        end = λ hub packets.
            rw (next_record false hub packets bytes some, write.0, write_played hub packets (get_or d 0 0) (drop 1 d))
            (rest.end _ packets ∙ rw (burst_registers hub (get_or d 0 0) (drop 1 d), write.1, writes_append Selection hub.registers here later));
      }

-- all of them, of which there are at most n
later_runs : (n : ℕ) (bytes : List ℕ) (calls : List RegisterWrite) → length bytes ≤ n → left_calls false bytes ≡ given calls → Runs bytes calls
later_runs zero bytes calls h e = none_runs bytes (omega arith) e
later_runs (suc n) bytes calls h e = go (eqb (length bytes) 0) refl (later_runs n (drop (record_length bytes) bytes))
  where
    go : (b : Bool) → eqb (length bytes) 0 ≡ b
        → ((later : List RegisterWrite) → length (drop (record_length bytes) bytes) ≤ n → left_calls false (drop (record_length bytes) bytes) ≡ given later
        → Runs (drop (record_length bytes) bytes) later)
        → Runs bytes calls
    go true b ih = none_runs bytes (eqb-true (length bytes) 0 b) e
    go false b ih =
        let ne = eqb-false (length bytes) 0 b in
        let less = rest_less bytes (omega arith) in
        let own = then_given (record_calls (record_of false bytes)) _ (sym (records_join false bytes (omega arith)) ∙ e) in
        let more = on_given (λ (later : List RegisterWrite). own.0 ++ later) _ (sym own.2) in
        rw more.2 (write_runs bytes (omega arith) own.1 (ih more.0 (omega arith) more.1))

-- A trace from its first record on: it makes a hub, and from there the calls end where the trace ends, whatever was before.
pub record TraceRuns (trace : List ℕ) (address : ℕ) (start : PowerUp) (calls : List RegisterWrite) : Type 0 where
  pub allowed : is_hub_address address ≡ true
  pub small : AreBytes trace → AreByteWrites calls
  pub end : (hub : Hub) (packets : List ℕ) → (play_records (length trace) true hub packets trace).hub ≡ hub_writes (hub_at start address) calls

-- a hub record, and what follows it runs
hub_runs : (trace : List ℕ) (address : ℕ) (start : PowerUp) {later : List RegisterWrite} → 1 ≤ length trace → record_of true trace ≡ given (hub_record address start)
    → is_hub_address address ≡ true → Runs (drop (record_length trace) trace) later → TraceRuns trace address start later
hub_runs trace address start some first allowed rest =
    record {
      allowed = allowed;
      small = λ small. rest.small (below_from 256 (record_length trace) trace small);
      end = λ hub packets. rw (next_record true hub packets trace some, first, hub_played hub packets address start allowed) (rest.end (hub_at start address) packets);
    }

pub trace_runs : (trace : List ℕ) (address : ℕ) (start : PowerUp) {calls : List RegisterWrite} → record_of true trace ≡ given (hub_record address start) → trace_calls trace ≡ given calls
    → TraceRuns trace address start calls
trace_runs trace address start first e =
    let some : 1 ≤ length trace = omega (arith, some_bytes trace, given_whole true trace first) in
    let rest = drop (record_length trace) trace in
    let own = then_given (record_calls (record_of true trace)) _ (sym (records_join true trace some) ∙ e) in
    let made = hub_calls address start (sym (ap record_calls first) ∙ own.1) in
    let more = on_given (λ (later : List RegisterWrite). own.0 ++ later) _ (sym own.2) in
    rw (more.2 ∙ ap (λ (here : List RegisterWrite). here ++ more.0) made.1)
    (hub_runs trace address start some first made.0 (later_runs (length rest) rest more.0 (omega arith) more.1))

-- the trace of calls, from its second record on and as a whole
module _ (packets : List ℕ) where
  writes_end : (calls : List RegisterWrite) (hub : Hub) → (play_records (length (write_records calls)) false hub packets (write_records calls)).hub ≡ hub_writes hub calls
  writes_end [] hub = rw (no_records (length (write_records [])) false hub packets (write_records []) (writes_length []), writes_none)
  writes_end (call ∷ calls) hub =
      let some : 1 ≤ length (write_records (call ∷ calls)) = omega (arith, writes_length (call ∷ calls)) in
      let values = call.value ∷ [] in
      rw (next_record false hub packets (write_records (call ∷ calls)) some, writes_first call calls, write_played hub packets call.offset values, writes_rest call calls)
      (writes_end calls (hub_burst hub call.offset values)
      ∙ rw (burst_registers hub call.offset values, burst_one call.offset call.value, sym (writes_append Selection hub.registers (call ∷ []) calls)))

  trace_end : (address : ℕ) (start : PowerUp) (calls : List RegisterWrite) (hub : Hub) → is_hub_address address ≡ true
      → (play_records (length (trace_of address start calls)) true hub packets (trace_of address start calls)).hub ≡ hub_writes (hub_at start address) calls
  trace_end address start calls hub allowed =
      let some : 1 ≤ length (trace_of address start calls) = omega (arith, trace_length address start calls) in
      rw (next_record true hub packets (trace_of address start calls) some, trace_first address start calls, hub_played hub packets address start allowed, trace_rest address start calls)
      (writes_end calls (hub_at start address))

pub calls_are_played : CallsArePlayed
unfolding hub_with
calls_are_played address start calls allowed =
    trace_end (replicate packet_room 0) address start calls (hub_at Boot 0x08) allowed
