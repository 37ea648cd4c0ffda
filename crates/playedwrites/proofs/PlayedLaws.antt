-- The records of some bytes, taken for their writes and played, go together: the same registers and address, or the
-- same end.
-- Assumes nothing.
use mathlib.Core.Path.{◌≡◌, refl, sym, ap, ◌∙◌}
use mathlib.Core.Bool.{Bool, true, false, cond}
use mathlib.Core.List.{List, [], ◌∷◌, ◌++◌}
use mathlib.Core.Option.{Option, some}
use Prim.Native.Nat.{ℕ, zero, suc, ◌+◌, ◌*◌, ◌≤◌}
use native.Mathlib.Omega.{arith}
use borrow.Author.Tests.{eqb-true, eqb-false, ne_eqb}
use lib.Dec.{eqb}
use lib.ListN.{length, get_or, drop, replicate}
use Rattle.laws.specs.Reply.{Reply, refused_with, refused, refused_at, given, on_reply, and_then}
use Rattle.laws.proofs.Absurd.{zero_not_one}
use Rattle.registers.specs.declared.PageAccess.TheVariants.{Selection}
use Rattle.registers.specs.declared.power_up.PowerUp.{PowerUp}
use Rattle.registers.specs.declared.power_up.PowerUp.TheVariants.{Boot}
use Rattle.registers.specs.PowerUps.{power_up_file}
use Rattle.registers.specs.Bursts.{burst_writes}
use Rattle.registers.proofs.Bursts.{writes_none, writes_append}
use Rattle.hub.specs.declared.Hub.{Hub}
use Rattle.hub.specs.Hubs.{hub_with, hub_at, is_hub_address, creation_with, hub_burst, hub_read}
use Rattle.hub.proofs.Hubs.{burst_registers}
use Rattle.translation.specs.Translation.{who_hears_write, who_answers_read}
use Rattle.origins.specs.declared.NumberedWrite.{NumberedWrite}
use Rattle.origins.specs.NumberedWrites.{unnumbered_writes, numbered_burst}
use Rattle.origins.specs.Origins.{after_each}
use Rattle.origins.proofs.NumberedWrites.{unnumbered_append, unnumbered_as}
use Rattle.frames.specs.Events.{Event, start_event, pixel_line_event, end_event, event_reply, hub_after, buffer_after}
use Rattle.frames.proofs.EventLaws.{events_keep_registers}
use Rattle.trace.specs.Framing.{record_length, data_of}
use Rattle.trace.specs.Records.{TraceRecord, hub_record, write_record, record_of}
use Rattle.trace.proofs.KindLaws.{by_record, by_first}
use Rattle.tracewrites.specs.TraceWrites.{TraceWrites, no_writes, with_hub, with_burst, at_record}
use Rattle.tracewrites.specs.TraceWrites.{after_asked, after_record, after_records, trace_writes}
use Rattle.answers.specs.declared.EventKind.{EventKind}
use Rattle.answers.specs.declared.EventKind.TheVariants.{Start, PixelLine, End}
use Rattle.answers.specs.Answers.{Answer, hub_made, values_written, register_read, write_heard, read_answered}
use Rattle.playback.specs.Playing.{PlayedRecords, none_left, answer_then, play_hub, event_shown, play_asked, play_record}
use Rattle.playback.specs.Playing.{play_records, packet_room, play_file}
use Rattle.playback.proofs.PlayingLaws.{played_then}
use Rattle.playedwrites.specs.PlayedWrites.{ends_run, WritesArePlayed}
use Rattle.playedwrites.proofs.EventHubs.{events_keep_address}
use Rattle.playedwrites.proofs.Endings.{NotEnding, NoneEnds}
use Rattle.playedwrites.proofs.Endings.{write_not_ending, read_not_ending, event_not_ending}

-- The writes so far, and the player's hub: at first there is none, so that the first record may make the hub.
record Together (first : Bool) (before : TraceWrites) (hub : Hub) : Type 0 where
  address : hub.address ≡ before.hub
  registers : hub.registers ≡ after_each (power_up_file before.start) before.writes
  none : first ≡ true → before.writes ≡ []

-- the end of both, after so many records: the same registers and address, and no record ends the run; or the record
-- that is refused is the player's last, which ends it
pub record Given (records : ℕ) (after : TraceWrites) (played : PlayedRecords) : Type 0 where
  pub address : played.hub.address ≡ after.hub
  pub registers : played.hub.registers ≡ after_each (power_up_file after.start) after.writes
  pub going : NoneEnds records played.answers

pub record Refused (records number : ℕ) (detail : Option ℕ) (played : PlayedRecords) : Type 0 where
  pub earlier : List (Reply Answer)
  pub answers : played.answers ≡ earlier ++ (refused number ∷ [])
  pub count : detail ≡ some (records + length earlier + 1)
  pub ending : ends_run number (records + length earlier + 1) ≡ true

abbrev pub Ends : ℕ → Reply TraceWrites → PlayedRecords → Type 0
Ends records (given after) played = Given records after played
Ends records (refused_with number detail) played = Refused records number detail played

-- after a record that does not end the run
ends_later : (records : ℕ) (answer : Reply Answer) → NotEnding (records + 1) answer
    → (reply : Reply TraceWrites) (later : PlayedRecords) → Ends (records + 1) reply later
    → Ends records reply (answer_then answer later)
ends_later records answer on (given after) later e =
    record { address = e.address; registers = e.registers; going = (on, e.going) }
ends_later records answer on (refused_with number detail) later e =
    let more : records + 1 + length e.earlier + 1 ≡ records + length (answer ∷ e.earlier) + 1 = omega arith in
    record {
      earlier = answer ∷ e.earlier;
      answers = ap (λ (l : List (Reply Answer)). answer ∷ l) e.answers;
      count = e.count ∙ ap some more;
      ending = ap (ends_run number) (sym more) ∙ e.ending;
    }

-- at a record that ends the run
ends_here : (records number : ℕ) (hub : Hub) → ends_run number (records + 1) ≡ true
    → Ends records (refused_with number (some (records + 1))) (answer_then (refused number) (none_left hub))
ends_here records number hub ending =
    let same : records + 1 ≡ records + 0 + 1 = omega arith in
    record { earlier = []; answers = refl; count = ap some same; ending = ap (ends_run number) (sym same) ∙ ending }

-- no writes
none_after : (start : PowerUp) (writes : List NumberedWrite) → writes ≡ []
    → power_up_file start ≡ after_each (power_up_file start) writes
unfolding unnumbered_writes
none_after start writes e = rw (e, writes_none Selection (power_up_file start))

-- one record, and what comes after it
module _ (n records : ℕ) (before : TraceWrites) (hub : Hub) (packets bytes : List ℕ)
    (so : Together (eqb records 0) before hub)
    (later : (after : TraceWrites) (hub : Hub) (packets : List ℕ) → Together false after hub →
    let rest = drop (record_length bytes) bytes in
    Ends (records + 1) (after_records n (records + 1) after rest) (play_records n false hub packets rest)) where
  abbrev rest : List ℕ
  rest = drop (record_length bytes) bytes

  abbrev One : Reply TraceRecord → Type 0
  One found =
      let played = play_record hub packets found in
      Ends records (and_then (after_record before (records + 1) found) (λ after. after_records n (records + 1) after rest))
      (played_then played (play_records n false played.hub played.packets rest))

  -- a record that writes nothing
  same_later : (answer : Reply Answer) → NotEnding (records + 1) answer → (next : Hub) (lent : List ℕ)
      → next.address ≡ hub.address → next.registers ≡ hub.registers
      → Ends records (after_records n (records + 1) before rest) (answer_then answer (play_records n false next lent rest))
  same_later answer on next lent a r =
      ends_later records answer on (after_records n (records + 1) before rest) (play_records n false next lent rest)
      (later before next lent
      (record { address = a ∙ so.address; registers = r ∙ so.registers; none = λ e. zero_not_one (cc) }))

  one_hub : (address : ℕ) → eqb records 0 ≡ true → (start : PowerUp) → One (given (hub_record address start))
  unfolding after_asked play_asked creation_with hub_with
  one_hub address first start = go (is_hub_address address)
    where
      ending : ends_run 2 (records + 1) ≡ true
      ending = let zero = eqb-true records 0 first in rw zero

      go : (allowed : Bool) →
          let played = play_hub hub packets address (cond allowed (given (hub_with (power_up_file start) address)) (refused 2)) in
          Ends records
          (and_then (at_record (records + 1) (cond allowed (given (with_hub address start before)) (refused 2)))
          (λ after. after_records n (records + 1) after rest))
          (played_then played (play_records n false played.hub played.packets rest))
      go true =
          ends_later records (given (hub_made address)) tt (after_records n (records + 1) (with_hub address start before) rest)
          (play_records n false (hub_at start address) packets rest)
          (later (with_hub address start before) (hub_at start address) packets
          (record {
            address = refl;
            registers = none_after start before.writes (so.none first);
            none = λ e. zero_not_one (cc);
          }))
      go false = ends_here records 2 hub ending

  one_write : (offset : ℕ) (values : List ℕ) → One (given (write_record offset values))
  unfolding after_asked play_asked
  one_write offset values =
      let next = hub_burst hub offset values in
      let after = with_burst (records + 1) offset values before in
      let number = numbered_burst (records + 1) offset values in
      let here = burst_writes offset values in
      let written = burst_registers hub offset values in
      ends_later records (given (values_written offset (length values))) tt (after_records n (records + 1) after rest)
      (play_records n false next packets rest)
      (later after next packets
      (record {
        address = rw written so.address;
        registers =
            rw (
              written,
              unnumbered_append before.writes number,
              unnumbered_as (records + 1) here,
              writes_append Selection (power_up_file before.start) (unnumbered_writes before.writes) here,
              so.registers,
            );
        none = λ e. zero_not_one (cc);
      }))

  one_event : eqb records 0 ≡ false → (kind : EventKind) (port : ℕ) (event : Event) →
      let reply = event_reply hub event (length packets) 0 in
      Ends records (after_records n (records + 1) before rest)
      (answer_then (on_reply (event_shown kind port) reply)
      (play_records n false (hub_after hub event reply) (buffer_after packets 0 reply) rest))
  one_event f kind port event =
      let reply = event_reply hub event (length packets) 0 in
      same_later (on_reply (event_shown kind port) reply)
      (event_not_ending records f hub event (length packets) (event_shown kind port))
      (hub_after hub event reply) (buffer_after packets 0 reply)
      (events_keep_address hub event reply) (events_keep_registers hub event reply)

  one : One (record_of (eqb records 0) bytes)
  unfolding after_asked play_asked
  one = go (eqb records 0) refl
    where
      d : List ℕ
      d = data_of bytes

      go : (first : Bool) → eqb records 0 ≡ first → One (record_of first bytes)
      go true f = by_first One (ends_here records 13 hub refl) bytes (one_hub (get_or d 0 0) f)
      go false f =
          let a = get_or d 0 0 in
          let line = pixel_line_event a (replicate (get_or d 1 0 + 256 * get_or d 2 0) (get_or d 3 0 + 256 * get_or d 4 0)) in
          by_record One (ends_here records 13 hub refl) false bytes (λ e start. zero_not_one (cc)) (one_write a (drop 1 d))
          (same_later (given (register_read a (hub_read hub a))) tt hub packets refl refl)
          (same_later (on_reply (write_heard a) (who_hears_write hub a)) (write_not_ending records f hub a)
          hub packets refl refl)
          (same_later (on_reply (read_answered a) (who_answers_read hub a)) (read_not_ending records f hub a)
          hub packets refl refl)
          (one_event f Start a (start_event a (get_or d 1 0))) (one_event f End a (end_event a))
          (one_event f PixelLine a line)

-- all records, of which there are at most n
go_together : (n records : ℕ) (before : TraceWrites) (hub : Hub) (packets bytes : List ℕ)
    → Together (eqb records 0) before hub
    → Ends records (after_records n records before bytes) (play_records n (eqb records 0) hub packets bytes)
unfolding after_records play_records
go_together zero records before hub packets bytes so =
    record { address = so.address; registers = so.registers; going = tt }
go_together (suc n) records before hub packets bytes so =
    let next = ne_eqb (records + 1) 0 (λ e. omega arith) in
    go (eqb (length bytes) 0)
    (one n records before hub packets bytes so
    (λ after hub' packets' more.
    rw next at (go_together n (records + 1) after hub' packets' (drop (record_length bytes) bytes) (rw next more))))
  where
    rest : List ℕ
    rest = drop (record_length bytes) bytes

    go : (b : Bool) →
        let played = play_record hub packets (record_of (eqb records 0) bytes) in
        let here = after_record before (records + 1) (record_of (eqb records 0) bytes) in
        let reply = and_then here (λ after. after_records n (records + 1) after rest) in
        let all = played_then played (play_records n false played.hub played.packets rest) in
        Ends records reply all → Ends records (cond b (given before) reply) (cond b (none_left hub) all)
    go true e = record { address = so.address; registers = so.registers; going = tt }
    go false e = e

-- a trace that has a byte
pub trace_ends : (trace : List ℕ) → 1 ≤ length trace → Ends 0 (trace_writes trace) (play_file trace)
unfolding trace_writes hub_with
trace_ends trace h =
    rw (ne_eqb (length trace) 0 (λ e. omega arith))
    (go_together (length trace) 0 no_writes (hub_at Boot 0x08) (replicate packet_room 0) trace
    (record { address = refl; registers = none_after Boot [] refl; none = λ e. refl }))

-- a trace that has writes has a byte
pub some_byte : (trace : List ℕ) {writes : TraceWrites} → trace_writes trace ≡ given writes → 1 ≤ length trace
unfolding trace_writes
some_byte trace {writes} e = go (eqb (length trace) 0) refl e
  where
    go : (b : Bool) → eqb (length trace) 0 ≡ b
        → cond b (refused_at 13 0) (after_records (length trace) 0 no_writes trace) ≡ given writes → 1 ≤ length trace
    go true b k = zero_not_one (cc)
    go false b k = let ne = eqb-false (length trace) 0 b in omega arith

pub writes_are_played : WritesArePlayed
writes_are_played trace writes e =
    let end = rw e at (trace_ends trace (some_byte trace e)) in
    record { address = end.address; registers = end.registers }
