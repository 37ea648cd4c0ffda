-- What the records of a trace ask: document 01, "The trace and the player", refusal 13, and L5.
-- Assumes nothing.
use Rattle.std.specs.Prelude.{Bool, cond, not, ◌&&◌, Option, Some, None, List, [], ◌∷◌, ℕ, ◌+◌, ◌*◌, eqb, leb, length}
use Rattle.std.specs.Prelude.{get_or, drop}
use Rattle.laws.specs.Reply.{Reply, refused, given}
use Rattle.registers.specs.declared.power_up.PowerUp.{PowerUp}
use Rattle.registers.specs.declared.power_up.PowerUp.TheVariants.{Boot, Reset}
use Rattle.trace.specs.declared.Record.{Record}
use Rattle.trace.specs.declared.Record.TheVariants.{Hub, Write, Read, WriteQuestion, ReadQuestion}
use Rattle.trace.specs.declared.Record.TheVariants.{Start, End, PixelLine}
use Rattle.trace.specs.Framing.{has_mark, kind_byte, data_of, holds_record}

-- what a record asks of the hub
pub data TraceRecord : Type 0 where
  hub_record : (address : ℕ) (start : PowerUp) → TraceRecord
  write_record : (offset : ℕ) (values : List ℕ) → TraceRecord
  read_record : (offset : ℕ) → TraceRecord
  write_question : (address : ℕ) → TraceRecord
  read_question : (address : ℕ) → TraceRecord
  start_record : (port bits : ℕ) → TraceRecord
  end_record : (port : ℕ) → TraceRecord
  pixel_line_record : (port width pixel : ℕ) → TraceRecord

-- L5: "The hub record may now have a second byte, only 0, for the data sheet's reset; with one byte it means the
-- board's." "Refusals: 13 for another second byte."
unfoldable pub hub_asked : List ℕ → Reply TraceRecord
hub_asked bytes =
    cond (eqb (length bytes) 1) (given (hub_record (get_or bytes 0 0) Boot))
    (cond (eqb (get_or bytes 1 0) 0) (given (hub_record (get_or bytes 0 0) Reset))
    (refused 13))

-- the data of the hub record that asks for an address and a start
abbrev pub hub_data : ℕ → PowerUp → List ℕ
hub_data address Boot = address ∷ []
hub_data address Reset = address ∷ 0 ∷ []

-- "direction 0 write or 1 read"
unfoldable pub question_record : List ℕ → Reply TraceRecord
question_record bytes =
    cond (eqb (get_or bytes 1 0) 0) (given (write_question (get_or bytes 0 0)))
    (cond (eqb (get_or bytes 1 0) 1) (given (read_question (get_or bytes 0 0)))
    (refused 13))

-- A row of the table of kinds: the least and the most bytes n of data that a kind has, and what its data asks.
pub record KindRow : Type 0 where
  pub kind : ℕ
  pub least : ℕ
  pub most : ℕ
  pub asked : List ℕ → Reply TraceRecord

abbrev row : ℕ → ℕ → ℕ → (List ℕ → Reply TraceRecord) → KindRow
row kind least most asked = record { kind = kind; least = least; most = most; asked = asked }

unfoldable pub kind_rows : List KindRow
kind_rows =
    -- "00: hub address (n = 1)"; L5: "may now have a second byte"
    row 0x00 1 2 hub_asked ∷
    -- "01: offset, one or more values (n at least 2)"; its length byte holds at most 255
    row 0x01 2 255 (λ bytes. given (write_record (get_or bytes 0 0) (drop 1 bytes))) ∷
    -- "02: offset to read (n = 1)"
    row 0x02 1 1 (λ bytes. given (read_record (get_or bytes 0 0))) ∷
    -- "03: address, direction 0 write or 1 read (n = 2)"
    row 0x03 2 2 question_record ∷
    -- "10: frame start: port, format (n = 2)"
    row 0x10 2 2 (λ bytes. given (start_record (get_or bytes 0 0) (get_or bytes 1 0))) ∷
    -- "11: frame end: port (n = 1)"
    row 0x11 1 1 (λ bytes. given (end_record (get_or bytes 0 0))) ∷
    -- "12: line: port, width, pixel value for the whole line, both 16 bits low byte first (n = 5)"
    row 0x12 5 5
    (λ bytes. given (pixel_line_record (get_or bytes 0 0)
    (get_or bytes 1 0 + 256 * get_or bytes 2 0) (get_or bytes 3 0 + 256 * get_or bytes 4 0))) ∷
    []

-- a kind that is not in the table has no length
unfoldable pub kind_row_in : List KindRow → ℕ → KindRow
kind_row_in [] kind = row kind 1 0 (λ bytes. refused 13)
kind_row_in (r ∷ rs) kind = cond (eqb kind r.kind) r (kind_row_in rs kind)

abbrev pub kind_row : ℕ → KindRow
kind_row kind = kind_row_in kind_rows kind

abbrev pub length_allowed : ℕ → ℕ → Bool
length_allowed kind count = leb (kind_row kind).least count && leb count (kind_row kind).most

-- 00: "first record and only there"
abbrev pub may_stand : Bool → ℕ → Bool
may_stand first kind = cond first (eqb kind 0x00) (not (eqb kind 0x00))

-- a record by its kind and its data, `first` where it is the trace's first
unfoldable pub kind_record : Bool → ℕ → List ℕ → Reply TraceRecord
kind_record first kind bytes =
    cond (may_stand first kind && length_allowed kind (length bytes)) ((kind_row kind).asked bytes) (refused 13)

-- The record at the start of the bytes.
-- 13: "mark, kind, length or direction not as below, record cut short, kind 00 not first or again"
unfoldable pub record_of : Bool → List ℕ → Reply TraceRecord
record_of first bytes =
    cond (holds_record bytes && has_mark bytes) (kind_record first (kind_byte bytes) (data_of bytes)) (refused 13)

-- the paper's number and values for each case of the answer;
-- the values of a write stand in the record's data after its offset
abbrev pub record_in : List ℕ → Record → TraceRecord
record_in bytes (Hub address start) = hub_record address start
record_in bytes (Write offset) = write_record offset (drop 1 bytes)
record_in bytes (Read offset) = read_record offset
record_in bytes (WriteQuestion address) = write_question address
record_in bytes (ReadQuestion address) = read_question address
record_in bytes (Start port bits) = start_record port bits
record_in bytes (End port) = end_record port
record_in bytes (PixelLine port width pixel) = pixel_line_record port width pixel

abbrev pub found_reply : List ℕ → Option Record → Reply TraceRecord
found_reply bytes None = refused 13
found_reply bytes (Some asked) = given (record_in bytes asked)
