-- Frame events on the hub: document 01, "Frames and packets" and "Refusal numbers".
-- Assumes nothing.
use Rattle.std.specs.Prelude.{◌≡◌, cond, List, ℕ, ◌+◌, ◌*◌, eqb, leb, ltb, length, Result, Some, None}
use Rattle.std.specs.Prelude.{Option as SourceOption}
use Rattle.std.proofs.Math.Option.{Option}
use Rattle.laws.specs.Reply.{Reply, refused, refused_with, given, on_reply, and_then, reply_by}
use Rattle.laws.specs.Buffers.{written}
use Rattle.formats.specs.declared.Format.{Format}
use Rattle.formats.specs.Formats.{format_of}
use Rattle.registers.specs.declared.RegisterFile.{RegisterFile}
use Rattle.registers.specs.RegisterMap.{MAX_FRM_HI, MAX_FRM_LO}
use Rattle.registers.specs.RegisterFiles.{shared_at}
use Rattle.hub.specs.declared.LastFrame.{LastFrame}
use Rattle.hub.specs.declared.LastFrame.TheVariants.{NoFrame, Closed, Open}
use Rattle.hub.specs.declared.Hub.{Hub}
use Rattle.hub.specs.Hubs.{is_open, frame_number, port_frames, with_port_frames}
use Rattle.hub.specs.Routes.{PortRoute, off, output, data_identifier, port_route}
use Rattle.packing.specs.Raw.{payload_of}
use Rattle.packing.specs.Packing.{pixel_refusal_number, if_pixels}
use Rattle.csi2.specs.declared.short.FrameSync.TheVariants.{FrameStart, FrameEnd}
use Rattle.csi2.specs.Writers.{short_reply, packet_reply}
use Rattle.frames.specs.declared.EventRefusal.{EventRefusal}
use Rattle.frames.specs.declared.Sent.{Sent}

-- "Frame start names port and format." "Line names a port and pixels as 16-bit numbers." A frame end names a port.
pub data Event : Type 0 where
  start_event : (port bits : ℕ) → Event
  pixel_line_event : (port : ℕ) (pixels : List ℕ) → Event
  end_event : (port : ℕ) → Event

abbrev pub last_frame : Hub → ℕ → LastFrame
last_frame hub port = (port_frames hub port).last

-- 0x1D and 0x1E: "largest frame number, high and low byte"
abbrev pub largest_number : RegisterFile → ℕ
largest_number file = 256 * shared_at file MAX_FRM_HI + shared_at file MAX_FRM_LO

-- "The next number is 0 if the largest frame number is 0; otherwise the old number plus 1 if that is at most the
-- largest, else 1."
unfoldable pub next_frame_number : ℕ → ℕ → ℕ
next_frame_number largest old = cond (eqb largest 0) 0 (cond (leb (old + 1) largest) (old + 1) 1)

abbrev pub start_number : Hub → ℕ → ℕ
start_number hub port = next_frame_number (largest_number hub.registers) (frame_number (last_frame hub port))

-- What becomes of an event that is not refused: dropped, or a packet leaves on a CSI output. (The caller is told how
-- many bytes the packet has, and a printed line shows its header.)
pub data Outcome (Packet : Type 0) : Type 0 where
  dropped : Outcome Packet
  sent : (csi : ℕ) (packet : Packet) → Outcome Packet

-- the same with another view of the packet
abbrev pub on_outcome : {A B : Type 0} → (A → B) → Outcome A → Outcome B
on_outcome f dropped = dropped
on_outcome f (sent csi packet) = sent csi (f packet)

-- "Forwarding of port p is off [...]: the event is then "dropped" [...] Otherwise it leaves on CSI output 0 or 1";
-- "Being dropped is decided before 7 and 8."
abbrev pub forward_on : PortRoute → Reply (List ℕ) → Reply (Outcome (List ℕ))
forward_on off packet = given dropped
forward_on (output csi raw10 raw12) packet = on_reply (sent csi) packet

-- 4: "line or end on a closed one"; otherwise what follows, with the open frame's format and number
unfoldable pub if_open : {A : Type 0} → LastFrame → (Format → ℕ → Reply A) → Reply A
if_open NoFrame next = refused 4
if_open (Closed format number) next = refused 4
if_open (Open format number) next = next format number

-- "Order: start 1, 3, 4, 8; line 1, 4, 5, 6, 7, 8; end 1, 4, 8." 1: "port above 3"; 4: "start on an open port". Of the
-- data identifier "a line uses it whole". "Frame end carries the number its start had."
unfoldable pub event_reply : Hub → Event → ℕ → ℕ → Reply (Outcome (List ℕ))
event_reply hub (start_event port bits) size place =
    cond (ltb 3 port) (refused 1)
    (and_then (format_of bits) (λ format.
    cond (is_open (last_frame hub port)) (refused 4)
    (forward_on (port_route hub.registers port)
    (short_reply (data_identifier hub.registers port format) FrameStart (start_number hub port) size place))))
event_reply hub (pixel_line_event port pixels) size place =
    cond (ltb 3 port) (refused 1)
    (if_open (last_frame hub port) (λ format number.
    if_pixels format pixels
    (forward_on (port_route hub.registers port)
    (packet_reply (data_identifier hub.registers port format) (payload_of format pixels) size place))))
event_reply hub (end_event port) size place =
    cond (ltb 3 port) (refused 1)
    (if_open (last_frame hub port) (λ format number.
    forward_on (port_route hub.registers port)
    (short_reply (data_identifier hub.registers port format) FrameEnd number size place)))

-- "the frame state moves on": a start opens the port, an end closes it, a line leaves it as it is
abbrev pub opened_with : Hub → ℕ → Reply Format → Hub
opened_with hub port (refused_with number detail) = hub
opened_with hub port (given format) = with_port_frames hub port (record { last = Open format (start_number hub port) })

abbrev pub closed_with : Hub → ℕ → LastFrame → Hub
closed_with hub port NoFrame = hub
closed_with hub port (Closed format number) = hub
closed_with hub port (Open format number) = with_port_frames hub port (record { last = Closed format number })

abbrev pub state_after_event : Hub → Event → Hub
state_after_event hub (start_event port bits) = opened_with hub port (format_of bits)
state_after_event hub (pixel_line_event port pixels) = hub
state_after_event hub (end_event port) = closed_with hub port (last_frame hub port)

-- The hub and the lent buffer after an event: "A refusal returns its number alone, with no part of the bytes; all
-- state and buffers stay."
abbrev pub unless_refused : {A : Type 0} → Hub → Hub → Reply A → Hub
unless_refused hub moved (refused_with number detail) = hub
unless_refused hub moved (given a) = moved

abbrev pub hub_after : Hub → Event → Reply (Outcome (List ℕ)) → Hub
hub_after hub event reply = unless_refused hub (state_after_event hub event) reply

-- dropped: "nothing is written"
abbrev pub buffer_after : List ℕ → ℕ → Reply (Outcome (List ℕ)) → List ℕ
buffer_after buffer place (refused_with number detail) = buffer
buffer_after buffer place (given dropped) = buffer
buffer_after buffer place (given (sent csi packet)) = written buffer place packet

-- the paper's numbers and values for each case of the answer; 4: "start on an open port; line or end on a closed one"
abbrev pub event_refusal_number : EventRefusal → ℕ
event_refusal_number EventRefusal.NoSuchPort = 1
event_refusal_number EventRefusal.UnknownFormat = 3
event_refusal_number EventRefusal.OutOfSequence = 4
event_refusal_number (EventRefusal.Pixels refusal) = pixel_refusal_number refusal
event_refusal_number EventRefusal.ShortType = 7
event_refusal_number EventRefusal.NoRoom = 8

abbrev pub outcome_of : SourceOption Sent → Outcome ℕ
outcome_of None = dropped
outcome_of (Some packet) = sent packet.csi packet.bytes

abbrev pub event_answer_reply : Result (SourceOption Sent) EventRefusal → Reply (Outcome ℕ)
event_answer_reply answer = on_reply outcome_of (reply_by event_refusal_number answer)

-- The answer to the caller, the hub, which becomes `moved` unless the event is refused, and the lent buffer after it,
-- all as the reply says.
pub record Answered (hub moved : Hub) (before : List ℕ) (place : ℕ) (reply : Reply (Outcome (List ℕ)))
    (answer : Reply (Outcome ℕ)) (next : Hub) (after : List ℕ) : Type 0 where
  pub answered : answer ≡ on_reply (on_outcome length) reply
  pub state : next ≡ unless_refused hub moved reply
  pub buffer : after ≡ buffer_after before place reply

-- the contract of every event
abbrev pub EventAnswered : Hub → Event → List ℕ → ℕ → Reply (Outcome ℕ) → Hub → List ℕ → Type 0
EventAnswered hub event before place answer next after =
    Answered hub (state_after_event hub event) before place (event_reply hub event (length before) place) answer next after

-- A law beside the contracts, over all events: a refusal changes no register and no frame state, and writes no byte.
abbrev pub RefusalChangesNothing : Type 0
RefusalChangesNothing =
    (hub : Hub) (event : Event) (buffer : List ℕ) (place number : ℕ) (detail : Option ℕ)
    → event_reply hub event (length buffer) place ≡ refused_with number detail
    → (hub_after hub event (event_reply hub event (length buffer) place) ≡ hub)
    × (buffer_after buffer place (event_reply hub event (length buffer) place) ≡ buffer)

-- and no event changes a register
abbrev pub EventsKeepRegisters : Type 0
EventsKeepRegisters =
    (hub : Hub) (event : Event) (reply : Reply (Outcome (List ℕ)))
    → (hub_after hub event reply).registers ≡ hub.registers
