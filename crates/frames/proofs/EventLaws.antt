-- Laws of frame events: a packet on a route, an event that is dropped or sent, and what no event changes.
-- Assumes nothing.
use mathlib.Core.Path.{◌≡◌, refl, ap, ◌∙◌}
use mathlib.Core.List.{List}
use Prim.Native.Nat.{ℕ, ◌≤◌}
use Rattle.laws.specs.Reply.{Reply, refused_with, given, on_reply}
use Rattle.laws.specs.Buffers.{Writes, count_of, after_reply}
use Rattle.formats.specs.declared.Format.{Format}
use Rattle.formats.specs.Formats.{format_of}
use Rattle.registers.specs.declared.RegisterFile.{RegisterFile}
use Rattle.hub.specs.declared.Hub.{Hub}
use Rattle.hub.specs.declared.LastFrame.{LastFrame}
use Rattle.hub.specs.declared.LastFrame.TheVariants.{NoFrame, Closed, Open}
use Rattle.hub.specs.Routes.{PortRoute, port_route, route_of}
use Rattle.hub.proofs.Routes.{route_given}
use Rattle.frames.specs.Events.{start_event, pixel_line_event, end_event, last_frame, dropped, sent, forward_on}
use Rattle.frames.specs.Events.{opened_with, closed_with, unless_refused, hub_after, buffer_after}
use Rattle.frames.specs.Events.{Answered, RefusalChangesNothing, EventsKeepRegisters}

-- what becomes of a packet, by the route that the source is told
pub forward_by : (file : RegisterFile) (port : ℕ) → port ≤ 3 → {route : PortRoute} → given route ≡ route_of file port
    → (packet : Reply (List ℕ)) → forward_on (port_route file port) packet ≡ forward_on route packet
forward_by file port h {route} e packet =
    let told = e ∙ route_given file port h in
    let same : port_route file port ≡ route = cc in
    ap (λ (r : PortRoute). forward_on r packet) same

module _ {hub moved : Hub} {d : List ℕ} {place : ℕ} where
  pub event_dropped : Answered hub moved d place (given dropped) (given dropped) moved d
  event_dropped = record { answered = refl; state = refl; buffer = refl }

  -- one that is answered as the packet writer answers
  pub event_sent : (csi : ℕ) {packet : Reply (List ℕ)} {told : Reply ℕ} {after : List ℕ} → Writes d place packet told after
      → Answered hub moved d place (on_reply (sent csi) packet) (on_reply (sent csi) told) (unless_refused hub moved told) after
  event_sent csi {packet} w = rw (w.answer, w.buffer) (go packet)
    where
      go : (packet : Reply (List ℕ)) → Answered hub moved d place (on_reply (sent csi) packet) (on_reply (sent csi) (count_of packet)) (unless_refused hub moved (count_of packet)) (after_reply d place packet)
      go (refused_with number detail) = record { answered = refl; state = refl; buffer = refl }
      go (given bytes) = record { answered = refl; state = refl; buffer = refl }

-- how the packet of an event leaves, for a function that sends one
pub ruleset sending = (route_given, forward_by, event_dropped, event_sent)

-- a refusal changes nothing, whatever the event, and no event changes a register
pub refusal_changes_nothing : RefusalChangesNothing
refusal_changes_nothing hub event buffer place number detail e =
    (ap (hub_after hub event) e, ap (buffer_after buffer place) e)

opened_registers : (hub : Hub) (port : ℕ) (reply : Reply Format) → (opened_with hub port reply).registers ≡ hub.registers
opened_registers hub port (refused_with number detail) = refl
opened_registers hub port (given format) = refl

closed_registers : (hub : Hub) (port : ℕ) (last : LastFrame) → (closed_with hub port last).registers ≡ hub.registers
closed_registers hub port NoFrame = refl
closed_registers hub port (Closed format number) = refl
closed_registers hub port (Open format number) = refl

pub events_keep_registers : EventsKeepRegisters
events_keep_registers hub event (refused_with number detail) = refl
events_keep_registers hub (start_event port bits) (given outcome) = opened_registers hub port (format_of bits)
events_keep_registers hub (pixel_line_event port pixels) (given outcome) = refl
events_keep_registers hub (end_event port) (given outcome) = closed_registers hub port (last_frame hub port)
