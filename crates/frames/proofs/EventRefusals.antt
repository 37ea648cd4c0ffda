-- By which numbers a frame event is refused.
-- Assumes nothing.
use mathlib.Core.Path.{◌≡◌, refl}
use mathlib.Core.Bool.{Bool, true, false, cond}
use mathlib.Core.List.{List}
use mathlib.Core.Option.{Option}
use Prim.Native.Nat.{ℕ, ◌+◌, ◌≤◌}
use native.Mathlib.Omega.{arith}
use lib.ListN.{length}
use Rattle.laws.specs.Reply.{Reply, refused, refused_with, given, on_reply}
use Rattle.laws.specs.Buffers.{has_room}
use Rattle.hub.specs.declared.Hub.{Hub}
use Rattle.csi2.specs.declared.short.FrameSync.{FrameSync}
use Rattle.csi2.specs.Packets.{is_short, long_packet}
use Rattle.csi2.specs.Writers.{short_reply, packet_reply}
use Rattle.csi2.proofs.WriterLaws.{short_by, packet_by}
use Rattle.frames.specs.Events.{Event, Outcome, sent, event_reply}
use Rattle.frames.proofs.EventSizes.{by_event}

abbrev RefusedTo8 : Reply (Outcome (List ℕ)) → Type 0
RefusedTo8 (refused_with number detail) = number ≤ 8
RefusedTo8 (given outcome) = Unit

module _ (size place csi : ℕ) where
  room_to_8 : (room : Bool) (packet : List ℕ) → RefusedTo8 (on_reply (sent csi) (cond room (given packet) (refused 8)))
  room_to_8 true packet = tt
  room_to_8 false packet = omega arith

  short_to_8 : (identifier : ℕ) (sync : FrameSync) (number : ℕ)
      → RefusedTo8 (on_reply (sent csi) (short_reply identifier sync number size place))
  short_to_8 identifier sync number =
      rw (short_by identifier sync number size place refl) (room_to_8 (has_room size place 4) _)

  long_to_8 : (identifier : ℕ) (payload : List ℕ)
      → RefusedTo8 (on_reply (sent csi) (packet_reply identifier payload size place))
  long_to_8 identifier payload =
      rw (packet_by identifier payload size place (length payload) refl refl refl) (go (is_short identifier))
    where
      go : (short : Bool)
          → RefusedTo8 (on_reply (sent csi)
          (cond short (refused 7)
          (cond (has_room size place (6 + length payload)) (given (long_packet identifier payload)) (refused 8))))
      go true = omega arith
      go false = room_to_8 (has_room size place (6 + length payload)) (long_packet identifier payload)

-- "Order: start 1, 3, 4, 8; line 1, 4, 5, 6, 7, 8; end 1, 4, 8."
pub event_refused : (hub : Hub) (event : Event) (size place : ℕ) {number : ℕ} {detail : Option ℕ}
    → event_reply hub event size place ≡ refused_with number detail → number ≤ 8
event_refused hub event size place e =
    rw e at
    (by_event RefusedTo8 (λ number small. omega arith) tt size place (short_to_8 size place)
    (λ csi format pixels identifier width. long_to_8 size place csi identifier _) hub event)
