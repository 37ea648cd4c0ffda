-- The text of a trace of hub and write records: L1.
-- Assumes nothing.
use Rattle.std.specs.Prelude.{◌≡◌, ℕ, zero, suc, ◌+◌, ◌<◌, ◌≤◌, Bool, true, false, cond, Result, List, [], ◌∷◌, ◌++◌}
use Rattle.std.specs.Prelude.{length, drop, ◌==◌, slice_index}
use Rattle.laws.specs.Reply.{Reply, refused, given, on_reply, and_then, reply_by}
use Rattle.laws.specs.Buffers.{if_room}
use Rattle.laws.specs.Texts.{ascii}
use Rattle.buffers.specs.Numerals.{lowercase_byte}
use Rattle.registers.specs.Bursts.{RegisterWrite, burst_writes}
use Rattle.hub.specs.Hubs.{is_hub_address}
use Rattle.trace.specs.Framing.{record_length}
use Rattle.trace.specs.Records.{TraceRecord, hub_record, write_record, read_record, write_question, read_question}
use Rattle.trace.specs.Records.{start_record, end_record, pixel_line_record, record_of}
use Rattle.listing.specs.declared.ListingRefusal.{ListingRefusal}
use Rattle.listing.specs.Refusals.{listing_refusal_number}

-- WriteI2C(0x4c,0x0f)
unfoldable pub call_text : RegisterWrite → List ℕ
call_text call =
    ascii "WriteI2C(0x" ++ (lowercase_byte call.offset
    ++ (ascii ",0x" ++ (lowercase_byte call.value ++ ascii ")\n")))

-- "one call a line"
unfoldable pub calls_text : List RegisterWrite → List ℕ
calls_text [] = []
calls_text (call ∷ calls) = call_text call ++ calls_text calls

-- the calls of what a record asks: "a burst becoming one line a byte with offsets going round after 0xFF";
-- "2 in record 1, then 16, a record kind with no text form"
unfoldable pub calls_asked : TraceRecord → Reply (List RegisterWrite)
calls_asked (hub_record address start) = cond (is_hub_address address) (given []) (refused 2)
calls_asked (write_record offset values) = given (burst_writes offset values)
calls_asked (read_record offset) = refused 16
calls_asked (write_question address) = refused 16
calls_asked (read_question address) = refused 16
calls_asked (start_record port bits) = refused 16
calls_asked (end_record port) = refused 16
calls_asked (pixel_line_record port width pixel) = refused 16

-- the calls of what the bytes hold: "record by record, 13 [...], 2 in record 1, then 16"
abbrev pub record_calls : Reply TraceRecord → Reply (List RegisterWrite)
record_calls found = and_then found calls_asked

-- some calls, and those after them; the first refusal counts
abbrev pub followed_by : Reply (List RegisterWrite) → Reply (List RegisterWrite) → Reply (List RegisterWrite)
followed_by first later = and_then first (λ here. on_reply (λ (more : List RegisterWrite). here ++ more) later)

-- the calls of the records after the first, of which there are at most n
unfoldable pub later_calls : ℕ → List ℕ → Reply (List RegisterWrite)
later_calls zero bytes = given []
later_calls (suc n) bytes =
    cond (length bytes == 0) (given [])
    (followed_by (record_calls (record_of false bytes)) (later_calls n (drop (record_length bytes) bytes)))

-- the calls of a trace: no record has no bytes, so there are at most as many records as bytes.
-- "13 (an empty trace too)": it has no first record.
unfoldable pub trace_calls : List ℕ → Reply (List RegisterWrite)
trace_calls trace =
    followed_by (record_calls (record_of true trace)) (later_calls (length trace) (drop (record_length trace) trace))

-- the calls of what is left of a trace, `first` where nothing of it was passed
abbrev pub left_calls : Bool → List ℕ → Reply (List RegisterWrite)
left_calls true left = trace_calls left
left_calls false left = later_calls (length left) left

-- A law: they are those of the next record, and then those of what is left after it.
abbrev pub RecordsJoin : Type 0
RecordsJoin =
    (first : Bool) (left : List ℕ) → 1 ≤ length left
    → left_calls first left
    ≡ followed_by (record_calls (record_of first left)) (left_calls false (drop (record_length left) left))

-- A law: the texts of some calls, one after the other, are the text of them all; so by `RecordsJoin` the text of a
-- trace may be made record by record.
abbrev pub TextsJoin : Type 0
TextsJoin = (here later : List RegisterWrite) → calls_text (here ++ later) ≡ calls_text here ++ calls_text later

-- the text of calls in a buffer of that size, from the place on; "8 last"
abbrev pub text_if_room : ℕ → ℕ → Reply (List RegisterWrite) → Reply (List ℕ)
text_if_room size place reply = and_then reply (λ calls. if_room size place (calls_text calls))

-- the text of a trace, from the start of a buffer of that size
unfoldable pub trace_text : List ℕ → ℕ → Reply (List ℕ)
trace_text trace size = text_if_room size 0 (trace_calls trace)

-- the text of the record at the start of some bytes, `first` where it is the trace's first
unfoldable pub record_text : Bool → List ℕ → ℕ → ℕ → Reply (List ℕ)
record_text first bytes size place = text_if_room size place (record_calls (record_of first bytes))

-- no record has a longer text: at most 254 values, a line of 20 bytes each
abbrev pub longest_text : ℕ
longest_text = 5080

-- A law: where so many bytes are free from the place on, 8 does not come. (The record's length byte is a byte.)
abbrev pub LongestText : Type 0
LongestText =
    (first : Bool) (bytes : List ℕ) (size place : ℕ) → slice_index bytes 3 < 256 → place + longest_text ≤ size
    → record_text first bytes size place ≡ on_reply calls_text (record_calls (record_of first bytes))

-- the paper's number for a refusal, and how many bytes were put
abbrev pub listing_reply : Result ℕ ListingRefusal → Reply ℕ
listing_reply answer = reply_by listing_refusal_number answer
