-- Laws of one record's play: a hub, a write, an event with the header of its packet, and the pixels that are lent for a line.
-- Assumes nothing.
use Rattle.std.proofs.Common.{◌≡◌, ℕ, zero, suc, ◌+◌, ◌-◌, ◌≤◌, min, Bool, true, false, leb, List, ◌∷◌, length, take, drop, replicate, sym, refl, ap, ◌∙◌, ap₂, arith, leb-false, leb-true}
use native.Mathlib.Nat.{sub-zero, min-eq_left, min-eq_right}
use lib.ListN.{length-replicate}
use lib.Seq.{take-append-le}
use Rattle.laws.specs.Reply.{Reply, refused_with, given, on_reply}
use Rattle.laws.specs.Buffers.{written}
use Rattle.laws.proofs.Buffers.{length-written, drop-written, run_eq}
use Rattle.registers.specs.declared.power_up.PowerUp.{PowerUp}
use Rattle.registers.specs.PowerUps.{power_up_file}
use Rattle.hub.specs.declared.Hub.{Hub}
use Rattle.hub.specs.Hubs.{hub_at, is_hub_address, hub_burst}
use Rattle.hub.proofs.Hubs.{created}
use Rattle.frames.specs.Events.{Event, pixel_line_event, Outcome, dropped, sent, on_outcome, event_reply, hub_after, buffer_after, EventAnswered}
use Rattle.frames.proofs.EventSizes.{too_wide, EventFits, event_fits}
use Rattle.trace.specs.Records.{hub_record, write_record}
use Rattle.answers.specs.declared.EventKind.{EventKind}
use Rattle.answers.specs.Answers.{Answer, hub_made, values_written, event_done, event_with}
use Rattle.playback.specs.Playing.{answering, event_shown, play_event, play_asked}
use Rattle.playback.specs.PrivateContracts.{first_four}

-- a hub record whose address may be a hub's own, and a write
module _ (hub : Hub) (packets : List ℕ) where
  pub hub_played : (address : ℕ) (start : PowerUp) → is_hub_address address ≡ true
      → play_asked hub packets (hub_record address start) ≡ answering (hub_at start address) packets (given (hub_made address))
  unfolding play_asked
  hub_played address start e = rw (created (power_up_file start) address e)

  pub write_played : (offset : ℕ) (values : List ℕ)
      → play_asked hub packets (write_record offset values)
      ≡ answering (hub_burst hub offset values) packets (given (values_written offset (length values)))
  unfolding play_asked
  write_played offset values = refl

-- the first four bytes of a buffer that a packet was written into
first_four_lem : (d packet : List ℕ) → 4 ≤ length packet → 0 + length packet ≤ length d → first_four (written d 0 packet) ≡ take 4 packet
first_four_lem d packet four fits =
    let size = length-written d 0 packet fits in
    sym (run_eq 4 0 (written d 0 packet) (omega arith))
    ∙ ap (take 4) (drop-written d 0 packet fits)
    ∙ take-append-le 4 packet (drop (0 + length packet) d) four

-- an event was answered, and the header is that in the buffer after it
module _ (kind : EventKind) (port : ℕ) (d : List ℕ) where
  header_shown : (reply : Reply (Outcome (List ℕ))) → EventFits (length d) 0 reply
      → on_reply (event_with kind port (first_four (buffer_after d 0 reply))) (on_reply (on_outcome length) reply) ≡ on_reply (event_shown kind port) reply
  header_shown (refused_with number detail) f = refl
  header_shown (given dropped) f = refl
  header_shown (given (sent csi packet)) f =
      ap (λ (header : List ℕ). given (event_done kind port (sent csi header))) (first_four_lem d packet f.0 f.1)

  pub event_played : (hub : Hub) (event : Event) {told : Reply (Outcome ℕ)} {next : Hub} {after : List ℕ} {shown : Reply Answer}
      → EventAnswered hub event d 0 told next after → shown ≡ on_reply (event_with kind port (first_four after)) told
      → answering next after shown ≡ play_event hub d kind port event
  event_played hub event w h =
      let reply = event_reply hub event (length d) 0 in
      rw (h, w.answered, w.state, w.buffer)
      (ap (answering (hub_after hub event reply) (buffer_after d 0 reply)) (header_shown reply (event_fits (length d) 0 hub event)))

-- the first of equal pixels
take_replicate : (n m x : ℕ) → n ≤ m → take n (replicate m x) ≡ replicate n x
take_replicate zero m x h = refl
take_replicate (suc n) zero x h = absurd (omega arith)
take_replicate (suc n) (suc m) x h = ap (λ (l : List ℕ). x ∷ l) (take_replicate n m x (omega arith))

-- the pixels that are lent are answered as all of them
pub lent_pixels : (hub : Hub) (port size width pixel : ℕ) {lent : ℕ} {pixels : List ℕ} → pixels ≡ replicate 4097 pixel → lent ≡ min width 4097
    → event_reply hub (pixel_line_event port (take (lent - 0) (drop 0 pixels))) size 0 ≡ event_reply hub (pixel_line_event port (replicate width pixel)) size 0
lent_pixels hub port size width pixel {lent} {pixels} p l = go (leb width 4097) refl
  where
    part : {n : ℕ} → n ≤ 4097 → min width 4097 ≡ n → take (lent - 0) (drop 0 pixels) ≡ replicate n pixel
    part {n} h m = ap₂ take (sub-zero lent ∙ l ∙ m) p ∙ take_replicate n 4097 pixel h

    go : (b : Bool) → leb width 4097 ≡ b
        → event_reply hub (pixel_line_event port (take (lent - 0) (drop 0 pixels))) size 0 ≡ event_reply hub (pixel_line_event port (replicate width pixel)) size 0
    go true e = let h = leb-true width 4097 e in rw (part h (min-eq_left h))
    go false e =
        let over = leb-false width 4097 e in
        let all = length-replicate {A = ℕ} 4097 pixel in
        rw (part {n = 4097} (omega arith) (min-eq_right (omega arith)))
        (too_wide hub port size 0 (replicate 4097 pixel) (replicate width pixel) (omega arith) (omega (arith, length-replicate {A = ℕ} width pixel)))
