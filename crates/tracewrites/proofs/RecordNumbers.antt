-- The number of a write of a trace is that of the record in which it stands.
-- Assumes nothing.
use mathlib.Core.Path.{◌≡◌, refl, sym, ap, ◌∙◌}
use mathlib.Core.Bool.{Bool, true, false, cond}
use mathlib.Core.List.{List, [], ◌++◌, append-nil}
use mathlib.Core.List.Memᴰ
use mathlib.Core.List.{Memᴰ}
use mathlib.Core.Logic.{◌⊎◌, inl, inr}
use Prim.Native.Nat.{ℕ, zero, suc, ◌+◌, ◌-◌, ◌≤◌, ◌<◌}
use native.Mathlib.Omega.{arith}
use borrow.Author.Tests.{eqb-true, eqb-false, eq-eqb, ne_eqb}
use lib.Dec.{eqb}
use lib.ListN.{length, drop, length-drop}
use Rattle.laws.specs.Reply.{Reply, refused_with, refused, refused_at, given, and_then}
use Rattle.laws.proofs.Absurd.{zero_not_one}
use Rattle.laws.proofs.Replies.{given_same}
use Rattle.registers.specs.Bursts.{burst_writes}
use Rattle.hub.specs.Hubs.{is_hub_address}
use Rattle.origins.specs.declared.NumberedWrite.{NumberedWrite}
use Rattle.origins.specs.NumberedWrites.{unnumbered, numbered_burst}
use Rattle.origins.proofs.NumberedWrites.{numbered_in, in_numbered}
use Rattle.trace.specs.Framing.{record_length}
use Rattle.trace.specs.Records.{TraceRecord, hub_record, write_record, read_record, write_question, read_question}
use Rattle.trace.specs.Records.{start_record, end_record, pixel_line_record, record_of}
use Rattle.trace.proofs.RecordLaws.{some_bytes, given_whole}
use Rattle.tracewrites.specs.TraceWrites.{TraceWrites, no_writes, with_hub, at_record, after_asked, after_record}
use Rattle.tracewrites.specs.TraceWrites.{after_records, trace_writes, past_records, InItsRecord, NumbersAreRecords}

-- the writes of a record with that number
abbrev record_writes : ℕ → TraceRecord → List NumberedWrite
record_writes number (hub_record address start) = []
record_writes number (write_record offset values) = numbered_burst number offset values
record_writes number (read_record offset) = []
record_writes number (write_question address) = []
record_writes number (read_question address) = []
record_writes number (start_record port bits) = []
record_writes number (end_record port) = []
record_writes number (pixel_line_record port width pixel) = []

-- what a record that is taken leaves: its writes come after those before
record Adds (before : TraceWrites) (number : ℕ) (asked : TraceRecord) (next : TraceWrites → Reply TraceWrites)
    (after : TraceWrites) : Type 0 where
  mid : TraceWrites
  writes : mid.writes ≡ before.writes ++ record_writes number asked
  later : next mid ≡ given after

module _ (before : TraceWrites) (number : ℕ) (next : TraceWrites → Reply TraceWrites) (after : TraceWrites) where
  unchanged : (asked : TraceRecord) → record_writes number asked ≡ [] → next before ≡ given after
      → Adds before number asked next after
  unchanged asked none e =
      record {
        mid = before;
        writes = sym (append-nil before.writes) ∙ ap (◌++◌ before.writes) (sym none);
        later = e;
      }

  asked_adds : (asked : TraceRecord)
      → and_then (at_record number (after_asked before number asked)) next ≡ given after
      → Adds before number asked next after
  unfolding after_asked
  asked_adds (hub_record address start) e = go (is_hub_address address) e
    where
      go : (allowed : Bool)
          → and_then (at_record number (cond allowed (given (with_hub address start before)) (refused 2))) next ≡ given after
          → Adds before number (hub_record address start) next after
      go true k = record { mid = with_hub address start before; writes = sym (append-nil before.writes); later = k }
      go false k = zero_not_one (cc)
  asked_adds (write_record offset values) e = record { mid = _; writes = refl; later = e }
  asked_adds (read_record offset) e = unchanged (read_record offset) refl e
  asked_adds (write_question address) e = unchanged (write_question address) refl e
  asked_adds (read_question address) e = unchanged (read_question address) refl e
  asked_adds (start_record port bits) e = unchanged (start_record port bits) refl e
  asked_adds (end_record port) e = unchanged (end_record port) refl e
  asked_adds (pixel_line_record port width pixel) e = unchanged (pixel_line_record port width pixel) refl e

-- a write stands in one of the records of some bytes, the first of which has the number after `records`
record InRecords (records : ℕ) (bytes : List ℕ) (write : NumberedWrite) : Type 0 where
  counted : records < write.number
  offset : ℕ
  values : List ℕ
  asked : record_of (eqb write.number 1) (past_records (write.number - (records + 1)) bytes)
      ≡ given (write_record offset values)
  among : Memᴰ (unnumbered write) (burst_writes offset values)

first_is_1 : (records : ℕ) → eqb (records + 1) 1 ≡ eqb records 0
first_is_1 records = go (eqb records 0) refl
  where
    go : (b : Bool) → eqb records 0 ≡ b → eqb (records + 1) 1 ≡ b
    go true e = let zero = eqb-true records 0 e in eq-eqb (records + 1) 1 (omega arith)
    go false e = let other = eqb-false records 0 e in ne_eqb (records + 1) 1 (λ q. other (omega arith))

module _ (records : ℕ) (bytes : List ℕ) (write : NumberedWrite) where
  -- in the first of them
  here_asked : write.number ≡ records + 1
      → record_of (eqb write.number 1) (past_records (write.number - (records + 1)) bytes)
      ≡ record_of (eqb records 0) bytes
  unfolding past_records
  here_asked n =
      let none : write.number - (records + 1) ≡ 0 = omega arith in
      rw (none, n, first_is_1 records)

  here : (asked : TraceRecord) → record_of (eqb records 0) bytes ≡ given asked
      → Memᴰ write (record_writes (records + 1) asked) → InRecords records bytes write
  here (write_record offset values) e m =
      let both = numbered_in (records + 1) (burst_writes offset values) write m in
      record {
        counted = omega (arith, both.0);
        offset = offset;
        values = values;
        asked = here_asked both.0 ∙ e;
        among = both.1;
      }
  here (hub_record address start) e m = absurd (Memᴰ.not-nil m)
  here (read_record offset) e m = absurd (Memᴰ.not-nil m)
  here (write_question address) e m = absurd (Memᴰ.not-nil m)
  here (read_question address) e m = absurd (Memᴰ.not-nil m)
  here (start_record port bits) e m = absurd (Memᴰ.not-nil m)
  here (end_record port) e m = absurd (Memᴰ.not-nil m)
  here (pixel_line_record port width pixel) e m = absurd (Memᴰ.not-nil m)

  -- or in a later one
  past_one : records + 1 < write.number
      → past_records (write.number - (records + 1)) bytes
      ≡ past_records (write.number - (records + 1 + 1)) (drop (record_length bytes) bytes)
  unfolding past_records
  past_one h =
      let more : write.number - (records + 1) ≡ suc (write.number - (records + 1 + 1)) = omega arith in
      rw more

  from_later : InRecords (records + 1) (drop (record_length bytes) bytes) write → InRecords records bytes write
  from_later r =
      record {
        counted = omega (arith, r.counted);
        offset = r.offset;
        values = r.values;
        asked = ap (record_of (eqb write.number 1)) (past_one r.counted) ∙ r.asked;
        among = r.among;
      }

  -- the two ways
  split : (asked : TraceRecord) → record_of (eqb records 0) bytes ≡ given asked → InRecords records bytes write
      → Memᴰ write (record_writes (records + 1) asked)
      ⊎ InRecords (records + 1) (drop (record_length bytes) bytes) write
  split asked e r = go (eqb write.number (records + 1)) refl
    where
      go : (b : Bool) → eqb write.number (records + 1) ≡ b
          → Memᴰ write (record_writes (records + 1) asked)
          ⊎ InRecords (records + 1) (drop (record_length bytes) bytes) write
      go true q =
          let n = eqb-true write.number (records + 1) q in
          let same : asked ≡ write_record r.offset r.values = given_same e (sym (here_asked n) ∙ r.asked) in
          inl (rw same (in_numbered (records + 1) (burst_writes r.offset r.values) write n r.among))
      go false q =
          let other = eqb-false write.number (records + 1) q in
          let above : records + 1 < write.number = omega (arith, r.counted) in
          inr
          (record {
            counted = above;
            offset = r.offset;
            values = r.values;
            asked = sym (ap (record_of (eqb write.number 1)) (past_one above)) ∙ r.asked;
            among = r.among;
          })

-- no record is left
past_less : (n : ℕ) (bytes : List ℕ) → length (past_records n bytes) ≤ length bytes
unfolding past_records
past_less zero bytes = omega arith
past_less (suc n) bytes =
    let rest = drop (record_length bytes) bytes in
    omega (arith, past_less n rest, length-drop (record_length bytes) bytes)

none_in : (records : ℕ) (bytes : List ℕ) (write : NumberedWrite) → length bytes ≡ 0 → InRecords records bytes write → ⊥
none_in records bytes write z r =
    let left = past_records (write.number - (records + 1)) bytes in
    omega (
      arith,
      given_whole (eqb write.number 1) left r.asked,
      some_bytes left,
      past_less (write.number - (records + 1)) bytes,
    )

-- among the writes after the records is what was among those before, or stands in one of the records, and nothing else
record Stands (records : ℕ) (bytes : List ℕ) (before after : TraceWrites) (write : NumberedWrite) : Type 0 where
  only : Memᴰ write after.writes → Memᴰ write before.writes ⊎ InRecords records bytes write
  every : Memᴰ write before.writes ⊎ InRecords records bytes write → Memᴰ write after.writes

module _ (records : ℕ) (before after : TraceWrites) (bytes : List ℕ) (write : NumberedWrite) where
  no_record_lem : length bytes ≡ 0 → given before ≡ given after → Stands records bytes before after write
  no_record_lem z e =
      let same : before ≡ after = cc in
      rw (← same) (record { only = λ m. inl m; every = kept })
    where
      kept : Memᴰ write before.writes ⊎ InRecords records bytes write → Memᴰ write before.writes
      kept (inl m) = m
      kept (inr r) = absurd (none_in records bytes write z r)

  one_record_lem : (asked : TraceRecord) → record_of (eqb records 0) bytes ≡ given asked
      → (mid : TraceWrites) → mid.writes ≡ before.writes ++ record_writes (records + 1) asked
      → Stands (records + 1) (drop (record_length bytes) bytes) mid after write
      → Stands records bytes before after write
  one_record_lem asked found mid w later = record { only = λ m. only_of (later.only m); every = every_of }
    where
      own : List NumberedWrite
      own = record_writes (records + 1) asked

      either : Memᴰ write before.writes ⊎ Memᴰ write own
          → Memᴰ write before.writes ⊎ InRecords records bytes write
      either (inl m) = inl m
      either (inr m) = inr (here records bytes write asked found m)

      only_of : Memᴰ write mid.writes ⊎ InRecords (records + 1) (drop (record_length bytes) bytes) write
          → Memᴰ write before.writes ⊎ InRecords records bytes write
      only_of (inl m) = either (Memᴰ.append_cases before.writes (rw w at m))
      only_of (inr r) = inr (from_later records bytes write r)

      added : Memᴰ write (before.writes ++ own) → Memᴰ write after.writes
      added m = later.every (inl (rw w m))

      found_later : Memᴰ write own ⊎ InRecords (records + 1) (drop (record_length bytes) bytes) write
          → Memᴰ write after.writes
      found_later (inl m) = added (Memᴰ.append_right before.writes m)
      found_later (inr r) = later.every (inr r)

      every_of : Memᴰ write before.writes ⊎ InRecords records bytes write → Memᴰ write after.writes
      every_of (inl m) = added (Memᴰ.append_left own m)
      every_of (inr r) = found_later (split records bytes write asked found r)

-- the records of some bytes, of which there are at most n
all-records : (n records : ℕ) (before after : TraceWrites) (bytes : List ℕ) (write : NumberedWrite)
    → length bytes ≤ n → after_records n records before bytes ≡ given after → Stands records bytes before after write
unfolding after_records
all-records zero records before after bytes write h e = no_record_lem records before after bytes write (omega arith) e
all-records (suc n) records before after bytes write h e =
    go (eqb (length bytes) 0) refl (record_of (eqb records 0) bytes) refl e
    (λ mid less k. all-records n (records + 1) mid after rest write less k)
  where
    rest : List ℕ
    rest = drop (record_length bytes) bytes

    next : TraceWrites → Reply TraceWrites
    next mid = after_records n (records + 1) mid rest

    go : (b : Bool) → eqb (length bytes) 0 ≡ b → (found : Reply TraceRecord) → record_of (eqb records 0) bytes ≡ found
        → cond b (given before) (and_then (after_record before (records + 1) found) next) ≡ given after
        → ((mid : TraceWrites) → length rest ≤ n → next mid ≡ given after → Stands (records + 1) rest mid after write)
        → Stands records bytes before after write
    go true z found f k ih = no_record_lem records before after bytes write (eqb-true (length bytes) 0 z) k
    go false z (refused_with number detail) f k ih = zero_not_one (cc)
    go false z (given asked) f k ih =
        let ne = eqb-false (length bytes) 0 z in
        let adds = asked_adds before (records + 1) next after asked k in
        let less : length rest ≤ n = omega (arith, length-drop (record_length bytes) bytes, some_bytes bytes) in
        one_record_lem records before after bytes write asked f adds.mid adds.writes
        (ih adds.mid less adds.later)

-- a trace that is taken has a byte
taken_records : (trace : List ℕ) {after : TraceWrites} → trace_writes trace ≡ given after
    → after_records (length trace) 0 no_writes trace ≡ given after
unfolding trace_writes
taken_records trace {after} e = go (eqb (length trace) 0) e
  where
    go : (b : Bool) → cond b (refused_at 13 0) (after_records (length trace) 0 no_writes trace) ≡ given after
        → after_records (length trace) 0 no_writes trace ≡ given after
    go true k = zero_not_one (cc)
    go false k = k

pub numbers_are_records : NumbersAreRecords
numbers_are_records trace writes e =
    record {
      only = λ write m. found write ((stands write).only m);
      every = λ write r. (stands write).every (inr (record {
        counted = r.counted;
        offset = r.offset;
        values = r.values;
        asked = r.asked;
        among = r.among;
      }));
    }
  where
    stands : (write : NumberedWrite) → Stands 0 trace no_writes writes write
    stands write =
        all-records (length trace) 0 no_writes writes trace write (omega arith) (taken_records trace e)

    found : (write : NumberedWrite) → Memᴰ write [] ⊎ InRecords 0 trace write → InItsRecord trace write
    found write (inl m) = absurd (Memᴰ.not-nil m)
    found write (inr r) =
        record { counted = r.counted; offset = r.offset; values = r.values; asked = r.asked; among = r.among }
