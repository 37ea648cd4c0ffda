-- One record by the source's steps: what the tests tell, how many values a write has, and what is neither a hub record nor a write.
-- Assumes nothing.
use mathlib.Core.Path.{◌≡◌, refl, sym}
use mathlib.Core.Bool.{Bool, true, false, not, ◌&&◌}
use mathlib.Core.List.{List}
use Prim.Native.Nat.{ℕ, ◌≤◌, ◌<◌}
use native.Mathlib.Nat.{zero-add}
use native.Mathlib.Omega.{arith}
use borrow.Author.Tests.{leb-true, not-true}
use lib.Dec.{eqb, leb}
use lib.ListN.{length, get_or, drop, length-drop}
use Rattle.std.specs.Prelude.{Option}
use Rattle.laws.specs.Reply.{given}
use Rattle.laws.proofs.Bools.{both}
use Rattle.buffers.specs.Putting.{Puts}
use Rattle.buffers.proofs.PutLaws.{whole_buffer, whole_place}
use Rattle.registers.specs.declared.power_up.PowerUp.{PowerUp}
use Rattle.trace.specs.declared.Record.{Record}
use Rattle.trace.specs.Framing.{data_of}
use Rattle.trace.specs.Records.{record_of, record_in}
use Rattle.trace.proofs.RecordLaws.{data_most, record_most}
use Rattle.trace.proofs.WindowLaws.{shows}
use Rattle.tracewrites.specs.declared.TraceRefusal.{TraceRefusal}
use Rattle.tracewrites.specs.declared.NextRecord.{NextRecord}
use Rattle.tracewrites.specs.declared.RecordTaken.{RecordTaken}
use Rattle.tracewrites.specs.RecordTurns.{is_trace_refusal, next_record_number, most_values, may_take_record, taken_with, passed_as, taken_hub, take_asked, take_record}

-- no record has more values than the most; its length byte is a byte
pub few_values : (left : List ℕ) → get_or left 3 0 < 256 → length (drop 1 (data_of left)) ≤ most_values
few_values left small = omega (arith, data_most left, record_most left small, length-drop 1 (data_of left))

-- what the tests of a record that may be taken tell
pub record MayTake (refusal : Option TraceRefusal) (left : List ℕ) (last : Bool) (size : ℕ) : Type 0 where
  pub on : is_trace_refusal refusal ≡ false
  pub room : most_values ≤ size
  pub shown : shows last left ≡ true

pub tests : (refusal : Option TraceRefusal) (left : List ℕ) (last : Bool) (size : ℕ) → may_take_record refusal left last size ≡ true → MayTake refusal left last size
unfolding may_take_record
tests refusal left last size may =
    let on = not (is_trace_refusal refusal) in
    let outer = both (on && leb most_values size) (shows last left) may in
    let inner = both on (leb most_values size) outer.0 in
    record { on = not-true (is_trace_refusal refusal) inner.0; room = leb-true most_values size inner.1; shown = outer.1 }

-- A record that writes nothing, or else a hub record or a write.
data Writing (records : ℕ) (left lent bytes : List ℕ) : Record → Type 0 where
  of_hub : (address : ℕ) (start : PowerUp) → Writing records left lent bytes (Record.Hub address start)
  of_write : (offset : ℕ) → Writing records left lent bytes (Record.Write offset)
  nothing : {asked : Record} → take_asked records left lent (record_in bytes asked) ≡ taken_with (passed_as records left NextRecord.Other) lent
      → Writing records left lent bytes asked

writing : (records : ℕ) (left lent bytes : List ℕ) (asked : Record) → Writing records left lent bytes asked
unfolding take_asked
writing records left lent bytes (Record.Hub address start) = of_hub address start
writing records left lent bytes (Record.Write offset) = of_write offset
writing records left lent bytes (Record.Read offset) = nothing refl
writing records left lent bytes (Record.WriteQuestion address) = nothing refl
writing records left lent bytes (Record.ReadQuestion address) = nothing refl
writing records left lent bytes (Record.Start port bits) = nothing refl
writing records left lent bytes (Record.End port) = nothing refl
writing records left lent bytes (Record.PixelLine port width pixel) = nothing refl

-- the record that was found
module _ (records : ℕ) (left lent : List ℕ) (asked : Record) (found : record_of (eqb records 0) left ≡ given (record_in (data_of left) asked)) {result : RecordTaken} where
  pub one_hub : {address : ℕ} {start : PowerUp} → asked ≡ Record.Hub address start → result ≡ taken_hub records left address start → taken_with result lent ≡ take_record records left lent
  unfolding take_record take_asked
  one_hub a e = rw (found, a, e)

  pub one_write : {offset number count : ℕ} {after : List ℕ} → get_or left 3 0 < 256 → most_values ≤ length lent → asked ≡ Record.Write offset
      → number ≡ next_record_number records → Puts lent 0 (drop 1 (data_of left)) after count → result ≡ passed_as records left (NextRecord.Write number offset count)
      → taken_with result after ≡ take_record records left lent
  unfolding take_record take_asked
  one_write small room a n puts e =
      let few = few_values left small in
      rw (found, a, e, n, whole_buffer puts (omega arith), whole_place puts (omega arith), zero-add (length (drop 1 (data_of left))))

  pub one_other : ((address : ℕ) (start : PowerUp) → asked ≡ Record.Hub address start → ⊥) → ((offset : ℕ) → asked ≡ Record.Write offset → ⊥)
      → result ≡ passed_as records left NextRecord.Other → taken_with result lent ≡ take_record records left lent
  unfolding take_record
  one_other hub write e = rw (found, e) (go (writing records left lent (data_of left) asked) hub write)
    where
      go : {r : Record} → Writing records left lent (data_of left) r → ((address : ℕ) (start : PowerUp) → r ≡ Record.Hub address start → ⊥) → ((offset : ℕ) → r ≡ Record.Write offset → ⊥)
          → taken_with (passed_as records left NextRecord.Other) lent ≡ take_asked records left lent (record_in (data_of left) r)
      go (of_hub address start) h w = absurd (h address start refl)
      go (of_write offset) h w = absurd (w offset refl)
      go (nothing k) h w = sym k
