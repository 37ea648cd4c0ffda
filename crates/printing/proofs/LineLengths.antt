-- How long a printed line can be: a number has at most 20 digits, so a device has at most 25 bytes and a line at most 128.
-- Assumes nothing.
use mathlib.Core.Path.{◌≡◌, refl}
use mathlib.Core.List.{List, [], ◌∷◌, append-nil}
use mathlib.Core.Option.{Option, none, some}
use Prim.Native.Nat.{ℕ, ◌*◌, ◌≤◌}
use native.Mathlib.Nat.{min-le_left}
use native.Mathlib.Omega.{arith}
use lib.ListN.{length, take, length-append, length-take}
use Rattle.laws.specs.Reply.{Reply, refused_with, given, on_reply}
use Rattle.buffers.specs.Numerals.{hex_byte, decimal}
use Rattle.buffers.proofs.NumeralLaws.{digits_most, hex_most}
use Rattle.hub.specs.declared.Hub.{Hub}
use Rattle.translation.specs.declared.Remote.{Remote}
use Rattle.translation.specs.declared.Remote.TheVariants.{Serializer, Target}
use Rattle.translation.specs.declared.PortDevice.{PortDevice}
use Rattle.translation.specs.Translation.{Addressed, the_hub, no_device, found, who_hears_write}
use Rattle.translation.proofs.Laws.{write_reaches_ports}
use Rattle.frames.specs.Events.{Outcome, on_outcome, dropped, sent}
use Rattle.answers.specs.declared.EventKind.{EventKind}
use Rattle.answers.specs.Answers.{Answer, hub_made, values_written, register_read, write_heard, read_answered, event_done}
use Rattle.printing.specs.PrintedLines.{remote_text, device_text, devices_text, detail_text, answer_text, reply_text, printed_line, printed_counts}

-- An answer that names at most four devices, or shows at most four bytes of a packet. (Ours: so that a line has room.)
abbrev pub Short : Reply Answer → Type 0
Short (refused_with number detail) = Unit
Short (given (hub_made address)) = Unit
Short (given (values_written offset count)) = Unit
Short (given (register_read offset value)) = Unit
Short (given (write_heard address the_hub)) = Unit
Short (given (write_heard address no_device)) = Unit
Short (given (write_heard address (found devices))) = length devices ≤ 4
Short (given (read_answered address who)) = Unit
Short (given (event_done event port dropped)) = Unit
Short (given (event_done event port (sent csi header))) = length header ≤ 4

-- the answers to a write's question, a read's question and a frame event are short
pub write_short : (hub : Hub) (address : ℕ) → Short (on_reply (write_heard address) (who_hears_write hub address))
write_short hub address = go (who_hears_write hub address) (λ devices e. (write_reaches_ports hub address devices e).few)
  where
    go : (reply : Reply (Addressed (List PortDevice))) → ((devices : List PortDevice) → reply ≡ given (found devices) → length devices ≤ 4)
        → Short (on_reply (write_heard address) reply)
    go (refused_with number detail) few = tt
    go (given the_hub) few = tt
    go (given no_device) few = tt
    go (given (found devices)) few = few devices refl

pub read_short : (address : ℕ) (reply : Reply (Addressed PortDevice)) → Short (on_reply (read_answered address) reply)
read_short address (refused_with number detail) = tt
read_short address (given who) = tt

pub event_short : (event : EventKind) (port : ℕ) (reply : Reply (Outcome (List ℕ)))
    → Short (on_reply (λ outcome. event_done event port (on_outcome (take 4) outcome)) reply)
event_short event port (refused_with number detail) = tt
event_short event port (given dropped) = tt
event_short event port (given (sent csi packet)) = rw length-take (min-le_left 4 (length packet))

-- the pieces of a line
decimal_short : (n : ℕ) → length (decimal n) ≤ 20
decimal_short n = digits_most 20 n

hex_two : (byte : ℕ) → length (hex_byte byte) ≡ 2
hex_two byte = rw append-nil at (hex_most (byte ∷ []))

remote_short : (remote : Remote) → length (remote_text remote) ≤ 3
remote_short (Serializer address) = omega (arith, hex_two address)
remote_short (Target number address) = omega (arith, hex_two address)

device_short : (device : PortDevice) → length (device_text device) ≤ 25
unfolding device_text
device_short device = simp length-append (omega (arith, decimal_short device.port, remote_short device.remote))

devices_short : (devices : List PortDevice) → length (devices_text devices) ≤ 25 * length devices
unfolding devices_text
devices_short [] = omega arith
devices_short (device ∷ devices) = simp length-append (omega (arith, device_short device, devices_short devices))

detail_short : (detail : Option ℕ) → length (detail_text detail) ≤ 21
detail_short none = omega arith
detail_short (some detail) = omega (arith, decimal_short detail)

-- what follows the number
text_short : (reply : Reply Answer) → Short reply → length (reply_text reply) ≤ 106
unfolding reply_text answer_text
text_short (refused_with number detail) h = simp length-append (omega (arith, decimal_short number, detail_short detail))
text_short (given (hub_made address)) h = omega (arith, hex_two address)
text_short (given (values_written offset count)) h = simp length-append (omega (arith, hex_two offset, decimal_short count))
text_short (given (register_read offset value)) h = simp length-append (omega (arith, hex_two offset, hex_two value))
text_short (given (write_heard address the_hub)) h = simp length-append (omega (arith, hex_two address))
text_short (given (write_heard address no_device)) h = simp length-append (omega (arith, hex_two address))
text_short (given (write_heard address (found devices))) h = simp length-append (omega (arith, hex_two address, devices_short devices))
text_short (given (read_answered address the_hub)) h = simp length-append (omega (arith, hex_two address))
text_short (given (read_answered address no_device)) h = simp length-append (omega (arith, hex_two address))
text_short (given (read_answered address (found device))) h = simp length-append (omega (arith, hex_two address, device_short device))
text_short (given (event_done event port dropped)) h = simp length-append (omega (arith, decimal_short port))
text_short (given (event_done event port (sent csi header))) h =
    simp length-append (omega (arith, decimal_short port, decimal_short csi, hex_most header))

-- a record's line, and the last line
pub printed_line_short : (number : ℕ) (reply : Reply Answer) → Short reply → length (printed_line number reply) ≤ 128
unfolding printed_line
printed_line_short number reply h = simp length-append (omega (arith, decimal_short number, text_short reply h))

pub printed_counts_short : (records refusals : ℕ) → length (printed_counts records refusals) ≤ 64
unfolding printed_counts
printed_counts_short records refusals = simp length-append (omega (arith, decimal_short records, decimal_short refusals))
