-- Every packet that the hub sends for a frame event is read back as what the event carries, and a line is unpacked.
-- Assumes nothing.
use Rattle.std.specs.Prelude.{◌≡◌, List, [], ℕ, ◌<◌, length, drop}
use Rattle.laws.specs.Reply.{given}
use Rattle.laws.specs.Buffers.{if_room}
use Rattle.laws.specs.Elements.{AreBytes}
use Rattle.formats.specs.declared.Format.{Format}
use Rattle.formats.specs.Formats.{format_of}
use Rattle.hub.specs.declared.Hub.{Hub}
use Rattle.hub.specs.declared.LastFrame.TheVariants.{Open}
use Rattle.hub.specs.Hubs.{frame_number}
use Rattle.hub.specs.Routes.{data_identifier}
use Rattle.packing.specs.Raw.{payload_of}
use Rattle.unpacking.specs.Unpacking.{unpack_reply}
use Rattle.csi2.specs.declared.short.FrameSync.TheVariants.{FrameStart, FrameEnd}
use Rattle.csi2.specs.Packets.{sync_identifier}
use Rattle.reader.specs.Reader.{payload_read}
use Rattle.reader.specs.RoundTrip.{ReadsAs}
use Rattle.frames.specs.Events.{Event, start_event, pixel_line_event, end_event, last_frame, start_number}
use Rattle.frames.specs.Events.{sent, event_reply, buffer_after}

-- In a definition a hub's registers and frame numbers are numbers, in the source u8 and u16. Every hub meets this.
pub record NumberLimits (hub : Hub) : Type 0 where
  pub shared : AreBytes hub.registers.shared
  pub pages : AreBytes hub.registers.pages
  pub numbers : (port : ℕ) → frame_number (last_frame hub port) < 65536

-- The bytes are read as the packet of the event: with its data identifier, its frame number or the count of its
-- payload, and its payload. "The data identifier is taken at each event from 0x70 or 0x71 by the frame's format; a line
-- uses it whole, a start or end uses its top two bits (the channel) with type 0x00 or 0x01." "Frame start names port
-- and format." "Frame end carries the number its start had."
abbrev pub ReadsAsEvent : Hub → Event → List ℕ → Type 0
ReadsAsEvent hub (start_event port bits) bytes =
    (format : Format) × (format_of bits ≡ given format)
    × ReadsAs bytes (sync_identifier (data_identifier hub.registers port format) FrameStart) (start_number hub port) []
ReadsAsEvent hub (pixel_line_event port pixels) bytes =
    (format : Format) × (number : ℕ) × (last_frame hub port ≡ Open format number)
    × ReadsAs bytes (data_identifier hub.registers port format)
    (length (payload_of format pixels)) (payload_of format pixels)
ReadsAsEvent hub (end_event port) bytes =
    (format : Format) × (number : ℕ) × (last_frame hub port ≡ Open format number)
    × ReadsAs bytes (sync_identifier (data_identifier hub.registers port format) FrameEnd) number []

-- the lent buffer after an event, from the place on: "Given bytes, it takes the packet at their start."
abbrev pub bytes_after : Hub → Event → List ℕ → ℕ → List ℕ
bytes_after hub event buffer place = drop place (buffer_after buffer place (event_reply hub event (length buffer) place))

-- for every event whose packet is sent
abbrev pub EventsReadBack : Type 0
EventsReadBack =
    (hub : Hub) (event : Event) (buffer packet : List ℕ) (place csi : ℕ) → NumberLimits hub
    → event_reply hub event (length buffer) place ≡ given (sent csi packet)
    → ReadsAsEvent hub event (bytes_after hub event buffer place)

-- L3: "Unpacking what the twin packed gives the pixels": the payload that is read from a line that is sent, unpacked by
-- the open frame's format into every slice that has room for them
abbrev pub EventLinesUnpack : Type 0
EventLinesUnpack =
    (hub : Hub) (port bits number : ℕ) (format : Format) (pixels buffer packet : List ℕ) (place csi size : ℕ)
    → NumberLimits hub → last_frame hub port ≡ Open format number → format_of bits ≡ given format
    → event_reply hub (pixel_line_event port pixels) (length buffer) place ≡ given (sent csi packet)
    → unpack_reply bits (payload_read (bytes_after hub (pixel_line_event port pixels) buffer place)) size
    ≡ if_room size 0 pixels
