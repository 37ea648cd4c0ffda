-- Laws of the calls of one record: which records have a text, and how many calls they have.
-- Assumes nothing.
use Rattle.std.proofs.Common.{◌≡◌, ℕ, ◌-◌, ◌<◌, ◌≤◌, Bool, true, false, cond, List, [], length, get_or, drop, refl, arith, length-drop}
use Rattle.laws.specs.Reply.{Reply, refused, given}
use Rattle.laws.proofs.Absurd.{zero_not_one}
use Rattle.laws.proofs.Replies.{refused_given, given_same, was_true, then_given}
use Rattle.registers.specs.declared.power_up.PowerUp.{PowerUp}
use Rattle.registers.specs.Bursts.{RegisterWrite, burst_writes}
use Rattle.hub.specs.Hubs.{is_hub_address}
use Rattle.trace.specs.declared.Record.{Record}
use Rattle.trace.specs.Framing.{record_length, data_of}
use Rattle.trace.specs.Records.{TraceRecord, hub_record, write_record, record_of, record_in}
use Rattle.trace.proofs.KindLaws.{by_record}
use Rattle.trace.proofs.RecordLaws.{given_whole, data_most, record_most}
use Rattle.listing.specs.Listing.{calls_text, calls_asked, record_calls, longest_text}
use Rattle.listing.proofs.TextLaws.{length-text, length-burst}

-- a hub record that is not refused has an address that a hub may have, and no calls
pub hub_calls : (address : ℕ) (start : PowerUp) {calls : List RegisterWrite} → calls_asked (hub_record address start) ≡ given calls
    → (is_hub_address address ≡ true) × (calls ≡ [])
unfolding calls_asked
hub_calls address start e = let allowed = was_true 2 (is_hub_address address) e in (allowed.0, cc)

-- a record after the first that has calls is a write of its data
pub write_calls : (bytes : List ℕ) {calls : List RegisterWrite} → record_calls (record_of false bytes) ≡ given calls
    → let d = data_of bytes in
    (record_of false bytes ≡ given (write_record (get_or d 0 0) (drop 1 d))) × (burst_writes (get_or d 0 0) (drop 1 d) ≡ calls)
unfolding calls_asked
write_calls bytes {calls} e =
    by_record P (λ k. zero_not_one (cc)) false bytes (λ f start. zero_not_one (cc)) (λ k. (refl, given_same refl k))
    (λ k. zero_not_one (cc)) (λ k. zero_not_one (cc)) (λ k. zero_not_one (cc)) (λ k. zero_not_one (cc)) (λ k. zero_not_one (cc)) (λ k. zero_not_one (cc)) e
  where
    P : Reply TraceRecord → Type 0
    P found =
        record_calls found ≡ given calls
        → (found ≡ given (write_record (get_or (data_of bytes) 0 0) (drop 1 (data_of bytes)))) × (burst_writes (get_or (data_of bytes) 0 0) (drop 1 (data_of bytes)) ≡ calls)

-- A record by the text that it has: a hub record, a write, or none.
data TextForm (bytes : List ℕ) : Record → Type 0 where
  of_hub : (address : ℕ) (start : PowerUp) → TextForm bytes (Record.Hub address start)
  of_write : (offset : ℕ) → TextForm bytes (Record.Write offset)
  no_text : {asked : Record} → calls_asked (record_in bytes asked) ≡ refused 16 → TextForm bytes asked

text_form : (bytes : List ℕ) (asked : Record) → TextForm bytes asked
unfolding calls_asked
text_form bytes (Record.Hub address start) = of_hub address start
text_form bytes (Record.Write offset) = of_write offset
text_form bytes (Record.Read offset) = no_text refl
text_form bytes (Record.WriteQuestion address) = no_text refl
text_form bytes (Record.ReadQuestion address) = no_text refl
text_form bytes (Record.Start port bits) = no_text refl
text_form bytes (Record.End port) = no_text refl
text_form bytes (Record.PixelLine port width pixel) = no_text refl

module _ (bytes : List ℕ) (asked : Record) where
  -- neither a hub record nor a write
  pub no_text_form_lem : ((address : ℕ) (start : PowerUp) → asked ≡ Record.Hub address start → ⊥) → ((offset : ℕ) → asked ≡ Record.Write offset → ⊥)
      → calls_asked (record_in bytes asked) ≡ refused 16
  no_text_form_lem hub write = go (text_form bytes asked) hub write
    where
      go : {r : Record} → TextForm bytes r → ((address : ℕ) (start : PowerUp) → r ≡ Record.Hub address start → ⊥) → ((offset : ℕ) → r ≡ Record.Write offset → ⊥)
          → calls_asked (record_in bytes r) ≡ refused 16
      go (of_hub address start) h w = absurd (h address start refl)
      go (of_write offset) h w = absurd (w offset refl)
      go (no_text e) h w = e

  -- what is no write has no calls
  pub no_calls : {calls : List RegisterWrite} → ((offset : ℕ) → asked ≡ Record.Write offset → ⊥) → calls_asked (record_in bytes asked) ≡ given calls → calls ≡ []
  no_calls {calls} write e = go (text_form bytes asked) write e
    where
      go : {r : Record} → TextForm bytes r → ((offset : ℕ) → r ≡ Record.Write offset → ⊥) → calls_asked (record_in bytes r) ≡ given calls → calls ≡ []
      go (of_hub address start) w k = (hub_calls address start k).1
      go (of_write offset) w k = absurd (w offset refl)
      go (no_text n) w k = refused_given n k

-- a record with calls is there whole
pub calls_whole : (first : Bool) (bytes : List ℕ) {calls : List RegisterWrite} → record_calls (record_of first bytes) ≡ given calls → record_length bytes ≤ length bytes
calls_whole first bytes e = given_whole first bytes (then_given (record_of first bytes) calls_asked e).1

-- The calls of a record: one refusal of three, or no more calls than values.
pub data CallsOf (bytes : List ℕ) : Reply (List RegisterWrite) → Type 0 where
  no_record : CallsOf bytes (refused 13)
  address_out_of_range : CallsOf bytes (refused 2)
  no_text_form : CallsOf bytes (refused 16)
  of_values : (calls : List RegisterWrite) → length calls ≤ length (data_of bytes) - 1 → CallsOf bytes (given calls)

pub calls_of_lem : (first : Bool) (bytes : List ℕ) → CallsOf bytes (record_calls (record_of first bytes))
unfolding calls_asked
calls_of_lem first bytes =
    by_record (λ found. CallsOf bytes (record_calls found)) no_record first bytes (λ f start. hub (is_hub_address (get_or d 0 0))) write no_text_form no_text_form no_text_form no_text_form
    no_text_form no_text_form
  where
    d : List ℕ
    d = data_of bytes

    hub : (allowed : Bool) → CallsOf bytes (cond allowed (given []) (refused 2))
    hub true = of_values [] (omega arith)
    hub false = address_out_of_range

    write : CallsOf bytes (given (burst_writes (get_or d 0 0) (drop 1 d)))
    write = of_values (burst_writes (get_or d 0 0) (drop 1 d)) (omega (arith, length-burst (get_or d 0 0) (drop 1 d), length-drop 1 d))

-- no more of them than bytes, and their text is no longer than the longest
module _ (first : Bool) (bytes : List ℕ) {calls : List RegisterWrite} (e : record_calls (record_of first bytes) ≡ given calls) where
  few_values : length calls ≤ length (data_of bytes) - 1
  few_values = go (calls_of_lem first bytes) e
    where
      go : {reply : Reply (List RegisterWrite)} → CallsOf bytes reply → reply ≡ given calls → length calls ≤ length (data_of bytes) - 1
      go no_record k = refused_given refl k
      go address_out_of_range k = refused_given refl k
      go no_text_form k = refused_given refl k
      go (of_values here few) k = rw (given_same refl k) at few

  pub few_calls : length calls ≤ record_length bytes
  few_calls = omega (arith, few_values, data_most bytes)

  pub text_most : get_or bytes 3 0 < 256 → length (calls_text calls) ≤ longest_text
  text_most small = omega (arith, few_values, length-text calls, data_most bytes, record_most bytes small)
