-- The hub that a trace asks for: it is the hub record's, and the bytes after the first record do not count.
-- Assumes nothing.
use Rattle.std.proofs.Common.{◌≡◌, ℕ, true, List, refl, ap, ◌∙◌}
use Rattle.laws.specs.Reply.{Reply, refused, given, and_then}
use Rattle.laws.proofs.Absurd.{zero_not_one}
use Rattle.laws.proofs.Replies.{given_same, was_true, then_given}
use Rattle.registers.specs.declared.power_up.PowerUp.{PowerUp}
use Rattle.trace.specs.declared.Record.{Record}
use Rattle.hub.specs.Hubs.{is_hub_address}
use Rattle.trace.specs.Records.{TraceRecord, hub_record, write_record, read_record, write_question, read_question}
use Rattle.trace.specs.Records.{start_record, end_record, pixel_line_record, record_of, record_in}
use Rattle.trace.proofs.RecordLaws.{same_record}
use Rattle.listing.specs.declared.HubAsked.{HubAsked}
use Rattle.listing.specs.TraceHubs.{hub_of_asked, trace_hub, WindowHasHub}

pub no_hub : (bytes : List ℕ) (asked : Record) → ((address : ℕ) (start : PowerUp) → asked ≡ Record.Hub address start → ⊥)
    → hub_of_asked (record_in bytes asked) ≡ refused 13
unfolding hub_of_asked
no_hub bytes (Record.Hub address start) hub = absurd (hub address start refl)
no_hub bytes (Record.Write offset) hub = refl
no_hub bytes (Record.Read offset) hub = refl
no_hub bytes (Record.WriteQuestion address) hub = refl
no_hub bytes (Record.ReadQuestion address) hub = refl
no_hub bytes (Record.Start port bits) hub = refl
no_hub bytes (Record.End port) hub = refl
no_hub bytes (Record.PixelLine port width pixel) hub = refl

pub window_has_hub : WindowHasHub
unfolding trace_hub
window_has_hub window rest h =
    ap (λ (found : Reply TraceRecord). and_then found hub_of_asked) (same_record true window rest h).0

-- what asks for a hub is the hub record
asked_hub : (asked : TraceRecord) {hub : HubAsked} → hub_of_asked asked ≡ given hub
    → asked ≡ hub_record hub.address hub.start
unfolding hub_of_asked
asked_hub (hub_record address start) e =
    let same = given_same refl (was_true 2 (is_hub_address address) e).1 in
    ap (λ (hub : HubAsked). hub_record hub.address hub.start) same
asked_hub (write_record offset values) e = zero_not_one (cc)
asked_hub (read_record offset) e = zero_not_one (cc)
asked_hub (write_question address) e = zero_not_one (cc)
asked_hub (read_question address) e = zero_not_one (cc)
asked_hub (start_record port bits) e = zero_not_one (cc)
asked_hub (end_record port) e = zero_not_one (cc)
asked_hub (pixel_line_record port width pixel) e = zero_not_one (cc)

pub hub_first : (trace : List ℕ) {hub : HubAsked} → trace_hub trace ≡ given hub
    → record_of true trace ≡ given (hub_record hub.address hub.start)
unfolding trace_hub
hub_first trace e =
    let own = then_given (record_of true trace) hub_of_asked e in
    own.1 ∙ ap (λ (asked : TraceRecord). given asked) (asked_hub own.0 own.2)
