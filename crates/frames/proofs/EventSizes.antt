-- How large the packet of an event can be, so that with 6,150 bytes free it has room, and lines that are too wide.
-- Assumes nothing.
use mathlib.Core.Path.{◌≡◌, refl, sym, ap, ◌∙◌}
use mathlib.Core.Bool.{Bool, true, false, cond}
use mathlib.Core.List.{List, [], append-nil}
use Rattle.std.specs.Prelude.{Result, Ok, Err}
use Prim.Native.Nat.{ℕ, ◌+◌, ◌≤◌, ◌<◌}
use native.Mathlib.Omega.{arith}
use borrow.Author.Tests.{leb-true, leb-false}
use lib.Dec.{ltb}
use lib.ListN.{length}
use Rattle.laws.specs.Reply.{Reply, refused, refused_with, given, on_reply, and_then}
use Rattle.laws.specs.Buffers.{has_room}
use Rattle.formats.specs.declared.Format.{Format}
use Rattle.formats.specs.Formats.{format_of}
use Rattle.formats.proofs.FormatLaws.{by_format}
use Rattle.hub.specs.declared.Hub.{Hub}
use Rattle.hub.specs.declared.LastFrame.{LastFrame}
use Rattle.hub.specs.declared.LastFrame.TheVariants.{NoFrame, Closed, Open}
use Rattle.hub.specs.Hubs.{is_open}
use Rattle.hub.specs.Routes.{PortRoute, off, output, data_identifier, port_route}
use Rattle.packing.specs.declared.check.PixelRefusal.{PixelRefusal}
use Rattle.packing.specs.declared.check.PixelRefusal.TheVariants.{WidthNotAllowed, PixelTooLarge}
use Rattle.packing.specs.Raw.{payload_of, width_allowed}
use Rattle.packing.specs.Lengths.{payload_length}
use Rattle.packing.specs.Packing.{check_of, after_check, if_pixels}
use Rattle.packing.proofs.RawLaws.{length_payload, payload_small}
use Rattle.packing.proofs.CheckLaws.{width_over, allowed_small, check_by, checked, good_width}
use Rattle.csi2.specs.declared.short.FrameSync.{FrameSync}
use Rattle.csi2.specs.Packets.{is_short, header_bytes, sync_identifier, long_packet}
use Rattle.csi2.specs.Writers.{short_reply, packet_reply}
use Rattle.csi2.proofs.WriterLaws.{header_then, short_by, packet_count, packet_by}
use Rattle.frames.specs.Events.{Event, start_event, pixel_line_event, end_event, last_frame, Outcome, dropped, sent, forward_on, if_open, event_reply}

-- a line with more pixels than any format allows is refused whatever they are
pub too_wide : (hub : Hub) (port size place : ℕ) (a b : List ℕ) → 4096 < length a → 4096 < length b
    → event_reply hub (pixel_line_event port a) size place ≡ event_reply hub (pixel_line_event port b) size place
unfolding event_reply if_open
too_wide hub port size place a b h k = ap (cond (ltb 3 port) (refused 1)) (go (last_frame hub port))
  where
    line : List ℕ → Format → Reply (Outcome (List ℕ))
    line pixels format =
        forward_on (port_route hub.registers port) (packet_reply (data_identifier hub.registers port format) (payload_of format pixels) size place)

    over : (format : Format) (pixels : List ℕ) → 4096 < length pixels → if_pixels format pixels (line pixels format) ≡ refused 5
    over format pixels w = checked format pixels (line pixels format) (check_by format pixels (width_over format (length pixels) w) refl)

    go : (last : LastFrame)
        → if_open last (λ format number. if_pixels format a (line a format)) ≡ if_open last (λ format number. if_pixels format b (line b format))
    go NoFrame = refl
    go (Closed format number) = refl
    go (Open format number) = over format a h ∙ sym (over format b k)

-- What holds of refusals below 8, of a dropped event, and of what the two packet writers answer, holds of every event.
module _ (P : Reply (Outcome (List ℕ)) → Type 0) (refusal : (number : ℕ) → number < 8 → P (refused number)) (drop : P (given dropped)) where
  either : (b : Bool) {x y : Reply (Outcome (List ℕ))} → P x → P y → P (cond b x y)
  either true p q = p
  either false p q = q

  forwarded : (route : PortRoute) (packet : Reply (List ℕ)) → ((csi : ℕ) → P (on_reply (sent csi) packet)) → P (forward_on route packet)
  forwarded off packet p = drop
  forwarded (output csi raw10 raw12) packet p = p csi

  if_format : (bits : ℕ) (next : Format → Reply (Outcome (List ℕ))) → ((format : Format) → P (next format)) → P (and_then (format_of bits) next)
  if_format bits next p = by_format (λ reply. P (and_then reply next)) (refusal 3 (omega arith)) p bits

  if_open_lem : (last : LastFrame) (next : Format → ℕ → Reply (Outcome (List ℕ))) → ((format : Format) (number : ℕ) → P (next format number))
      → P (if_open last next)
  unfolding if_open
  if_open_lem NoFrame next p = refusal 4 (omega arith)
  if_open_lem (Closed format number) next p = refusal 4 (omega arith)
  if_open_lem (Open format number) next p = p format number

  after_check_lem : (check : Result Unit PixelRefusal) (next : Reply (Outcome (List ℕ))) → (check ≡ Ok tt → P next) → P (after_check check next)
  after_check_lem (Err WidthNotAllowed) next p = refusal 5 (omega arith)
  after_check_lem (Err PixelTooLarge) next p = refusal 6 (omega arith)
  after_check_lem (Ok tt) next p = p refl

  pub by_event : (size place : ℕ)
      → ((csi identifier : ℕ) (sync : FrameSync) (number : ℕ) → P (on_reply (sent csi) (short_reply identifier sync number size place)))
      → ((csi : ℕ) (format : Format) (pixels : List ℕ) (identifier : ℕ) → width_allowed format (length pixels) ≡ true
      → P (on_reply (sent csi) (packet_reply identifier (payload_of format pixels) size place)))
      → (hub : Hub) (event : Event) → P (event_reply hub event size place)
  unfolding event_reply
  by_event size place short long hub (start_event port bits) =
      either (ltb 3 port) (refusal 1 (omega arith))
      (if_format bits _ (λ format.
      either (is_open (last_frame hub port)) (refusal 4 (omega arith)) (forwarded (port_route hub.registers port) _ (λ csi. short csi _ _ _))))
  by_event size place short long hub (pixel_line_event port pixels) =
      either (ltb 3 port) (refusal 1 (omega arith))
      (if_open_lem (last_frame hub port) _ (λ format number.
      after_check_lem (check_of format pixels) _ (λ good.
      forwarded (port_route hub.registers port) _ (λ csi. long csi format pixels _ (good_width format pixels good)))))
  by_event size place short long hub (end_event port) =
      either (ltb 3 port) (refusal 1 (omega arith))
      (if_open_lem (last_frame hub port) _ (λ format number. forwarded (port_route hub.registers port) _ (λ csi. short csi _ _ _)))

module _ (size place : ℕ) where
  -- A packet that was sent has a header and room; an event is refused for room only where fewer than 6,150 bytes are free.
  abbrev pub EventFits : Reply (Outcome (List ℕ)) → Type 0
  EventFits (refused_with number detail) = number ≡ 8 → size < place + 6150
  EventFits (given dropped) = Unit
  EventFits (given (sent csi packet)) = (4 ≤ length packet) × (place + length packet ≤ size)

  module _ (csi : ℕ) where
    -- bytes by the test for room
    room_fits : (packet : List ℕ) (n : ℕ) → length packet ≡ n → 4 ≤ n → n ≤ 6150
        → EventFits (on_reply (sent csi) (cond (has_room size place n) (given packet) (refused 8)))
    room_fits packet n e four most = go (has_room size place n) refl
      where
        go : (b : Bool) → has_room size place n ≡ b → EventFits (on_reply (sent csi) (cond b (given packet) (refused 8)))
        go true t = let l = leb-true (place + n) size t in (omega arith, omega arith)
        go false t = let l = leb-false (place + n) size t in λ q. omega arith

    -- a frame start or end
    short_fits : (identifier : ℕ) (sync : FrameSync) (number : ℕ) → EventFits (on_reply (sent csi) (short_reply identifier sync number size place))
    short_fits identifier sync number =
        let header = header_bytes (sync_identifier identifier sync) number in
        let four : length header ≡ 4 = ap length (rw append-nil at (header_then (sync_identifier identifier sync) number [])) in
        rw (short_by identifier sync number size place refl) (room_fits header 4 four (omega arith) (omega arith))

    -- a line
    long_fits : (format : Format) (pixels : List ℕ) (identifier : ℕ) → width_allowed format (length pixels) ≡ true
        → EventFits (on_reply (sent csi) (packet_reply identifier (payload_of format pixels) size place))
    long_fits format pixels identifier width =
        rw (packet_by identifier (payload_of format pixels) size place n (length_payload format pixels) refl refl) (go (is_short identifier))
      where
        n : ℕ
        n = payload_length format (length pixels)

        packet : List ℕ
        packet = long_packet identifier (payload_of format pixels)

        go : (short : Bool) → EventFits (on_reply (sent csi) (cond short (refused 7) (cond (has_room size place (6 + n)) (given packet) (refused 8))))
        go true = λ q. omega arith
        go false =
            let small = payload_small format (length pixels) (allowed_small format (length pixels) width) in
            room_fits packet (6 + n) (packet_count format pixels identifier n refl) (omega arith) (omega arith)

  pub event_fits : (hub : Hub) (event : Event) → EventFits (event_reply hub event size place)
  event_fits = by_event EventFits (λ number small eight. absurd (omega arith)) tt size place short_fits long_fits
