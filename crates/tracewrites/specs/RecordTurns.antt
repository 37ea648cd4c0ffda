-- How the source takes the next record of a window, one a turn.
-- Assumes nothing.
use Rattle.std.specs.Prelude.{◌≡◌, Bool, false, cond, not, ◌&&◌, Option, Some, None, is_some, unwrap_or, List, ℕ, ◌+◌}
use Rattle.std.specs.Prelude.{◌-◌, ◌^◌, ◌≤◌, min, eqb, leb, length, take, drop}
use Rattle.laws.specs.Reply.{Reply, refused_with, given}
use Rattle.laws.specs.Buffers.{written}
use Rattle.streams.specs.Streams.{new_window, after_read, nothing_left}
use Rattle.registers.specs.declared.power_up.PowerUp.{PowerUp}
use Rattle.hub.specs.Hubs.{is_hub_address}
use Rattle.trace.specs.Framing.{record_length, holds_record}
use Rattle.trace.specs.Records.{TraceRecord, hub_record, write_record, read_record, write_question, read_question}
use Rattle.trace.specs.Records.{start_record, end_record, pixel_line_record, record_of}
use Rattle.tracewrites.specs.declared.TraceRefusal.{TraceRefusal}
use Rattle.tracewrites.specs.declared.TraceRefusal.TheVariants.{MalformedRecord, AddressOutOfRange}
use Rattle.tracewrites.specs.declared.TraceRefusal.TheVariants.{EmptyTrace}
use Rattle.tracewrites.specs.declared.NextRecord.{NextRecord}
use Rattle.tracewrites.specs.declared.NextRecord.TheVariants.{Hub, Write, Other}
use Rattle.tracewrites.specs.declared.TraceFile.{TraceFile}
use Rattle.tracewrites.specs.declared.RecordTaken.{RecordTaken}
use Rattle.tracewrites.specs.declared.RecordTurn.{RecordTurn}

-- the paper's number for each refusal
abbrev pub trace_refusal_number : TraceRefusal → ℕ
trace_refusal_number MalformedRecord = 13
trace_refusal_number AddressOutOfRange = 2
trace_refusal_number EmptyTrace = 13

abbrev pub is_trace_refusal : Option TraceRefusal → Bool
is_trace_refusal refusal = is_some refusal

-- the number of the record after so many others; it has 64 bits, and stays at the largest
abbrev pub next_record_number : ℕ → ℕ
next_record_number records = min (records + 1) (2 ^ 64 - 1)

-- the number of the record that is refused; none is in an empty trace, which has none
abbrev pub refused_record : Option TraceRefusal → ℕ → Option ℕ
refused_record None records = None
refused_record (Some MalformedRecord) records = Some (next_record_number records)
refused_record (Some AddressOutOfRange) records = Some (next_record_number records)
refused_record (Some EmptyTrace) records = None

-- the same with 0 for none
abbrev pub refused_number : Option TraceRefusal → ℕ → ℕ
refused_number refusal records = unwrap_or (refused_record refusal records) 0

abbrev pub new_trace_file : TraceFile
new_trace_file = record { records = 0; refusal = None; window = new_window }

-- no record has more values: its length byte holds at most 255, and one byte is the offset
abbrev pub most_values : ℕ
most_values = 254

-- There is a record to take: none was refused; the most values have room; and the window holds a whole record or, at
-- the trace's end (`last`), any byte.
unfoldable pub may_take_record : Option TraceRefusal → List ℕ → Bool → ℕ → Bool
may_take_record refusal left last size =
    not (is_trace_refusal refusal) && leb most_values size && cond last (not (eqb (length left) 0)) (holds_record left)

-- what came of the bytes of a window, and the buffer lent for values after it
pub record Taken : Type 0 where
  pub result : RecordTaken
  pub values : List ℕ

abbrev pub taken_with : RecordTaken → List ℕ → Taken
taken_with result values = record { result = result; values = values }

-- no record is passed
abbrev pub not_passed : ℕ → Option TraceRefusal → RecordTaken
not_passed records refusal = record { records = records; refusal = refusal; next = None; used = 0 }

-- the record at the start of the bytes is passed
abbrev pub passed_as : ℕ → List ℕ → NextRecord → RecordTaken
passed_as records left next =
    record { records = next_record_number records; refusal = None; next = Some next; used = record_length left }

-- a hub record: 2 where the address is none that a hub has
unfoldable pub taken_hub : ℕ → List ℕ → ℕ → PowerUp → RecordTaken
taken_hub records left address start =
    cond (is_hub_address address) (passed_as records left (Hub address start))
    (not_passed records (Some AddressOutOfRange))

-- what a record asks: the values of a write are put at the start of the lent buffer, and other records put nothing
unfoldable pub take_asked : ℕ → List ℕ → List ℕ → TraceRecord → Taken
take_asked records left lent (hub_record address start) = taken_with (taken_hub records left address start) lent
take_asked records left lent (write_record offset values) =
    taken_with (passed_as records left (Write (next_record_number records) offset (length values))) (written lent 0 values)
take_asked records left lent (read_record offset) = taken_with (passed_as records left Other) lent
take_asked records left lent (write_question address) = taken_with (passed_as records left Other) lent
take_asked records left lent (read_question address) = taken_with (passed_as records left Other) lent
take_asked records left lent (start_record port bits) = taken_with (passed_as records left Other) lent
take_asked records left lent (end_record port) = taken_with (passed_as records left Other) lent
take_asked records left lent (pixel_line_record port width pixel) = taken_with (passed_as records left Other) lent

abbrev pub take_found : ℕ → List ℕ → List ℕ → Reply TraceRecord → Taken
take_found records left lent (refused_with number detail) = taken_with (not_passed records (Some MalformedRecord)) lent
take_found records left lent (given asked) = take_asked records left lent asked

-- one record
unfoldable pub take_record : ℕ → List ℕ → List ℕ → Taken
take_record records left lent = take_found records left lent (record_of (eqb records 0) left)

-- where no record is to be taken: a trace that ends before its first record is empty
unfoldable pub refusal_then : ℕ → Option TraceRefusal → ℕ → Bool → Option TraceRefusal
refusal_then records refusal count last =
    cond (not (is_trace_refusal refusal) && eqb records 0 && nothing_left false last count) (Some EmptyTrace) refusal

-- the next record of a window, if there is one to take
unfoldable pub take_next : Bool → ℕ → Option TraceRefusal → List ℕ → List ℕ → Taken
take_next last records refusal left lent =
    cond (may_take_record refusal left last (length lent)) (take_record records left lent)
    (taken_with (not_passed records (refusal_then records refusal (length left) last)) lent)

-- The next record was taken of the bytes of a window; what is left of them stands at the start of their buffer, whose
-- other bytes stay.
pub record RecordTurnMade (last : Bool) (taken : Taken) (rest buffer : List ℕ)
    (result : RecordTurn) (buffer_after valuesAfter : List ℕ) : Type 0 where
  pub records : result.file.records ≡ taken.result.records
  pub refusal : result.file.refusal ≡ taken.result.refusal
  pub window : result.file.window ≡ record { held = length rest; last = last }
  pub next : result.next ≡ taken.result.next
  pub left : buffer_after ≡ written buffer 0 rest
  pub fits : length rest ≤ length buffer
  pub values : valuesAfter ≡ taken.values
  pub done : result.done ≡ nothing_left (is_trace_refusal taken.result.refusal) last (length rest)

-- a turn takes the next record of the bytes that the window holds after the read
abbrev pub MakesRecordTurn : TraceFile → ℕ → List ℕ → List ℕ → RecordTurn → List ℕ → List ℕ → Type 0
MakesRecordTurn file got buffer lent result buffer_after valuesAfter =
    let window = after_read file.window got (length buffer) in
    let bytes = take window.held buffer in
    let taken = take_next window.last file.records file.refusal bytes lent in
    RecordTurnMade window.last taken (drop taken.result.used bytes) buffer result buffer_after valuesAfter
