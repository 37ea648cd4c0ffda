-- No frame event changes the hub's own address.
-- Assumes nothing.
use mathlib.Core.Path.{◌≡◌, refl}
use mathlib.Core.List.{List}
use Prim.Native.Nat.{ℕ}
use Rattle.laws.specs.Reply.{Reply, refused_with, given}
use Rattle.formats.specs.declared.Format.{Format}
use Rattle.formats.specs.Formats.{format_of}
use Rattle.hub.specs.declared.Hub.{Hub}
use Rattle.hub.specs.declared.LastFrame.{LastFrame}
use Rattle.hub.specs.declared.LastFrame.TheVariants.{NoFrame, Closed, Open}
use Rattle.frames.specs.Events.{Event, start_event, pixel_line_event, end_event, Outcome}
use Rattle.frames.specs.Events.{last_frame, opened_with, closed_with, hub_after}

opened_address : (hub : Hub) (port : ℕ) (reply : Reply Format) → (opened_with hub port reply).address ≡ hub.address
opened_address hub port (refused_with number detail) = refl
opened_address hub port (given format) = refl

closed_address : (hub : Hub) (port : ℕ) (last : LastFrame) → (closed_with hub port last).address ≡ hub.address
closed_address hub port NoFrame = refl
closed_address hub port (Closed format number) = refl
closed_address hub port (Open format number) = refl

pub events_keep_address : (hub : Hub) (event : Event) (reply : Reply (Outcome (List ℕ)))
    → (hub_after hub event reply).address ≡ hub.address
events_keep_address hub event (refused_with number detail) = refl
events_keep_address hub (start_event port bits) (given outcome) = opened_address hub port (format_of bits)
events_keep_address hub (pixel_line_event port pixels) (given outcome) = refl
events_keep_address hub (end_event port) (given outcome) = closed_address hub port (last_frame hub port)
