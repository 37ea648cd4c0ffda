-- The register writes of a trace: "A script's register writes are numbered by their line (a trace's by their record)."
-- Assumes nothing.
use Rattle.std.specs.Prelude.{◌≡◌, cond, ℕ, zero, suc, ◌+◌, ◌-◌, ◌≤◌, eqb, length, drop}
use mathlib.Core.List.{List, [], ◌++◌, Memᴰ}
use Rattle.laws.specs.Reply.{Reply, refused_with, refused, refused_at, given, and_then}
use Rattle.registers.specs.declared.power_up.PowerUp.{PowerUp}
use Rattle.registers.specs.declared.power_up.PowerUp.TheVariants.{Boot}
use Rattle.registers.specs.Bursts.{burst_writes}
use Rattle.hub.specs.Hubs.{is_hub_address}
use Rattle.origins.specs.declared.NumberedWrite.{NumberedWrite}
use Rattle.origins.specs.NumberedWrites.{unnumbered, numbered_burst, NumbersMean}
use Rattle.trace.specs.Framing.{record_length}
use Rattle.trace.specs.Records.{TraceRecord, hub_record, write_record, read_record, write_question, read_question}
use Rattle.trace.specs.Records.{start_record, end_record, pixel_line_record, record_of}

-- the hub's own address, how it starts, and the writes, each with the number of its record
pub record TraceWrites : Type 0 where
  pub hub : ℕ
  pub start : PowerUp
  pub writes : List NumberedWrite

-- before record 1 (there is no hub then; the address and the start here are not asked, as in the player's definition)
abbrev pub no_writes : TraceWrites
no_writes = record { hub = 0x08; start = Boot; writes = [] }

abbrev pub with_hub : ℕ → PowerUp → TraceWrites → TraceWrites
with_hub address start before = record { hub = address; start = start; writes = before.writes }

-- each value of a burst is a write, and all have the number of its record
abbrev pub with_burst : ℕ → ℕ → List ℕ → TraceWrites → TraceWrites
with_burst number offset values before =
    record {
      hub = before.hub;
      start = before.start;
      writes = before.writes ++ numbered_burst number offset values;
    }

-- what the record with that number adds: the hub's own address and start, or register writes; the others write nothing.
-- 2 where the address is none that a hub has
unfoldable pub after_asked : TraceWrites → ℕ → TraceRecord → Reply TraceWrites
after_asked before number (hub_record address start) =
    cond (is_hub_address address) (given (with_hub address start before)) (refused 2)
after_asked before number (write_record offset values) = given (with_burst number offset values before)
after_asked before number (read_record offset) = given before
after_asked before number (write_question address) = given before
after_asked before number (read_question address) = given before
after_asked before number (start_record port bits) = given before
after_asked before number (end_record port) = given before
after_asked before number (pixel_line_record port width pixel) = given before

-- a refusal has the number of its record: "as the player prints it: 1 ! 2, 4 ! 13"
abbrev pub at_record : ℕ → Reply TraceWrites → Reply TraceWrites
at_record number (refused_with refusal detail) = refused_at refusal number
at_record number (given after) = given after

-- what the bytes hold, as the record with that number
abbrev pub after_record : TraceWrites → ℕ → Reply TraceRecord → Reply TraceWrites
after_record before number found = at_record number (and_then found (after_asked before number))

-- The records of some bytes, at most n of them, after so many others: record by record, and the first refusal counts.
unfoldable pub after_records : ℕ → ℕ → TraceWrites → List ℕ → Reply TraceWrites
after_records zero records before bytes = given before
after_records (suc n) records before bytes =
    cond (eqb (length bytes) 0) (given before)
    (and_then (after_record before (records + 1) (record_of (eqb records 0) bytes))
    (λ after. after_records n (records + 1) after (drop (record_length bytes) bytes)))

-- The writes of a trace; no record has no bytes, so there are at most as many records as bytes. "An empty trace has no
-- hub": 13, and 0 for a record, since there is none.
unfoldable pub trace_writes : List ℕ → Reply TraceWrites
trace_writes trace = cond (eqb (length trace) 0) (refused_at 13 0) (after_records (length trace) 0 no_writes trace)

-- the bytes of a trace after so many of its records
unfoldable pub past_records : ℕ → List ℕ → List ℕ
past_records zero bytes = bytes
past_records (suc n) bytes = past_records n (drop (record_length bytes) bytes)

-- the record that has a number, counted from 1
abbrev pub record_numbered : ℕ → List ℕ → Reply TraceRecord
record_numbered number trace = record_of (eqb number 1) (past_records (number - 1) trace)

-- the write is one of those of the record that has its number
pub record InItsRecord (trace : List ℕ) (write : NumberedWrite) : Type 0 where
  pub counted : 1 ≤ write.number
  pub offset : ℕ
  pub values : List ℕ
  pub asked : record_numbered write.number trace ≡ given (write_record offset values)
  pub among : Memᴰ (unnumbered write) (burst_writes offset values)

-- A law: the numbers of a trace's writes are those of its records.
abbrev pub NumbersAreRecords : Type 0
NumbersAreRecords =
    (trace : List ℕ) (writes : TraceWrites) → trace_writes trace ≡ given writes
    → NumbersMean (InItsRecord trace) writes.writes
