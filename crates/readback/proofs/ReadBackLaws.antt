-- A frame event that is sent has passed every test, and its packet is read back and unpacked by the reader's laws.
-- Assumes nothing.
use mathlib.Core.Path.{◌≡◌, refl, sym, ap, ◌∙◌}
use mathlib.Core.Bool.{Bool, true, false, cond}
use mathlib.Core.List.{List}
use Prim.Native.Nat.{ℕ, ◌+◌, ◌<◌}
use native.Mathlib.Omega.{arith}
use borrow.Author.Tests.{leb-true}
use lib.Dec.{eqb, leb, ltb}
use lib.ListN.{length}
use Rattle.laws.specs.Reply.{Reply, given}
use Rattle.laws.proofs.Absurd.{zero_not_one}
use Rattle.laws.proofs.Replies.{was_false, then_given, on_given}
use Rattle.formats.specs.declared.Format.{Format}
use Rattle.formats.specs.declared.Format.TheVariants.{Raw10, Raw12}
use Rattle.formats.specs.Formats.{format_of}
use Rattle.registers.specs.RegisterMap.{MAX_FRM_HI, MAX_FRM_LO}
use Rattle.hub.specs.declared.Hub.{Hub}
use Rattle.hub.specs.declared.LastFrame.{LastFrame}
use Rattle.hub.specs.declared.LastFrame.TheVariants.{NoFrame, Closed, Open}
use Rattle.hub.specs.Hubs.{frame_number, is_open}
use Rattle.hub.specs.Routes.{PortRoute, off, output, data_identifier, port_route}
use Rattle.packing.specs.Raw.{all_fit}
use Rattle.packing.proofs.CheckLaws.{passed}
use Rattle.csi2.specs.declared.short.FrameSync.TheVariants.{FrameStart, FrameEnd}
use Rattle.csi2.specs.Writers.{short_reply, long_packet_reply}
use Rattle.csi2.proofs.WriterLaws.{long_good}
use Rattle.reader.proofs.RoundLaws.{long_packet_reads_back, long_packet_unpacks, short_reads_back}
use Rattle.frames.specs.Events.{start_event, pixel_line_event, end_event, last_frame, largest_number, next_frame_number}
use Rattle.frames.specs.Events.{start_number}
use Rattle.frames.specs.Events.{sent, forward_on, if_open, event_reply}
use Rattle.readback.specs.ReadBack.{NumberLimits, EventsReadBack, EventLinesUnpack}

-- what is sent is what the packet writer gave
packet_given : (route : PortRoute) (reply : Reply (List ℕ)) {csi : ℕ} {packet : List ℕ}
    → forward_on route reply ≡ given (sent csi packet) → reply ≡ given packet
packet_given off reply e = zero_not_one (cc)
packet_given (output csi raw10 raw12) reply e =
    let told = on_given (sent csi) reply (sym e) in
    told.1 ∙ ap given (cc)

-- what is given of an open frame
open_given : {A : Type 0} (last : LastFrame) (next : Format → ℕ → Reply A) {a : A} → if_open last next ≡ given a
    → (format : Format) × (number : ℕ) × (last ≡ Open format number) × (next format number ≡ given a)
unfolding if_open
open_given NoFrame next e = zero_not_one (cc)
open_given (Closed format number) next e = zero_not_one (cc)
open_given (Open format number) next e = (format, number, refl, e)

-- the next number is at most the largest, or 1
next_small : (largest old : ℕ) → largest < 65536 → next_frame_number largest old < 65536
unfolding next_frame_number
next_small largest old h = go (eqb largest 0) (leb (old + 1) largest) refl
  where
    go : (none more : Bool) → leb (old + 1) largest ≡ more → cond none 0 (cond more (old + 1) 1) < 65536
    go true more e = omega arith
    go false true e = omega (arith, leb-true (old + 1) largest e)
    go false false e = omega arith

-- a data identifier is a byte, and the number of a frame that starts has 16 bits
module _ (hub : Hub) (limits : NumberLimits hub) (port : ℕ) where
  identifier_small : (format : Format) → data_identifier hub.registers port format < 256
  identifier_small Raw10 = limits.pages _
  identifier_small Raw12 = limits.pages _

  start_small : start_number hub port < 65536
  start_small =
      let high = limits.shared MAX_FRM_HI in
      let low = limits.shared MAX_FRM_LO in
      next_small (largest_number hub.registers) (frame_number (last_frame hub port)) (omega arith)

-- an event that is sent, by its tests: its frame's format and number, and what the packet writer gave
module _ (hub : Hub) (port size place : ℕ) {csi : ℕ} {packet : List ℕ} where
  sent_start : (bits : ℕ) → event_reply hub (start_event port bits) size place ≡ given (sent csi packet)
      → (format : Format) × (format_of bits ≡ given format)
      × (short_reply (data_identifier hub.registers port format) FrameStart (start_number hub port) size place ≡ given packet)
  unfolding event_reply
  sent_start bits e =
      let known = then_given (format_of bits) _ (was_false 1 (ltb 3 port) e).1 in
      let closed = was_false 4 (is_open (last_frame hub port)) known.2 in
      (known.0, known.1, packet_given (port_route hub.registers port) _ closed.1)

  sent_line : (pixels : List ℕ) → event_reply hub (pixel_line_event port pixels) size place ≡ given (sent csi packet)
      → (format : Format) × (number : ℕ) × (last_frame hub port ≡ Open format number) × (all_fit format pixels ≡ true)
      × (long_packet_reply format pixels (data_identifier hub.registers port format) size place ≡ given packet)
  unfolding event_reply
  sent_line pixels e =
      let last = open_given (last_frame hub port) _ (was_false 1 (ltb 3 port) e).1 in
      let good = passed last.0 pixels _ last.3 in
      let wrote = packet_given (port_route hub.registers port) _ good.2 in
      (last.0, last.1, last.2, good.1, long_good last.0 pixels _ size place good.0 ∙ wrote)

  sent_end : event_reply hub (end_event port) size place ≡ given (sent csi packet)
      → (format : Format) × (number : ℕ) × (last_frame hub port ≡ Open format number)
      × (short_reply (data_identifier hub.registers port format) FrameEnd number size place ≡ given packet)
  unfolding event_reply
  sent_end e =
      let last = open_given (last_frame hub port) _ (was_false 1 (ltb 3 port) e).1 in
      (last.0, last.1, last.2, packet_given (port_route hub.registers port) _ last.3)

-- every packet that is sent is read back
pub events_read_back : EventsReadBack
events_read_back hub (start_event port bits) buffer packet place csi limits e =
    let by = sent_start hub port (length buffer) place bits e in
    rw e (
      by.0,
      by.1,
      short_reads_back (data_identifier hub.registers port by.0) FrameStart (start_number hub port) place buffer packet
          (identifier_small hub limits port by.0) (start_small hub limits port) by.2,
    )
events_read_back hub (pixel_line_event port pixels) buffer packet place csi limits e =
    let by = sent_line hub port (length buffer) place pixels e in
    rw e (
      by.0,
      by.1,
      by.2,
      long_packet_reads_back by.0 pixels (data_identifier hub.registers port by.0) place buffer packet
          (identifier_small hub limits port by.0) by.4,
    )
events_read_back hub (end_event port) buffer packet place csi limits e =
    let by = sent_end hub port (length buffer) place e in
    let small = rw by.2 at (limits.numbers port) in
    rw e (
      by.0,
      by.1,
      by.2,
      short_reads_back (data_identifier hub.registers port by.0) FrameEnd by.1 place buffer packet
          (identifier_small hub limits port by.0) small by.3,
    )

-- and the payload of a line, as it is read, is unpacked to its pixels
pub event_lines_unpack : EventLinesUnpack
event_lines_unpack hub port bits number format pixels buffer packet place csi size limits last known e =
    let by = sent_line hub port (length buffer) place pixels e in
    let same : by.0 ≡ format = cc by.2 in
    rw e
    (long_packet_unpacks bits by.0 pixels (data_identifier hub.registers port by.0) place size buffer packet
    (known ∙ ap given (sym same)) (identifier_small hub limits port by.0) by.3 by.4)
