-- The lines that the player prints: document 01, "The trace and the player".
-- Assumes nothing.
use Rattle.std.specs.Prelude.{List, [], ◌∷◌, ◌++◌, ℕ}
use Rattle.std.proofs.Math.Option.{Option, none, some}
use Prim.Native.Char.{code}
use Rattle.laws.specs.Reply.{Reply, refused_with, given}
use Rattle.laws.specs.Texts.{ascii}
use Rattle.buffers.specs.Numerals.{hex_byte, hex_bytes, decimal}
use Rattle.translation.specs.declared.Remote.{Remote}
use Rattle.translation.specs.declared.Remote.TheVariants.{Serializer, Target}
use Rattle.translation.specs.declared.PortDevice.{PortDevice}
use Rattle.translation.specs.Translation.{Addressed, the_hub, no_device, found}
use Rattle.frames.specs.Events.{Outcome, dropped, sent}
use Rattle.answers.specs.declared.EventKind.{EventKind}
use Rattle.answers.specs.declared.EventKind.TheVariants.{Start, PixelLine, End}
use Rattle.answers.specs.Answers.{Answer, hub_made, values_written, register_read, write_heard, read_answered}
use Rattle.answers.specs.Answers.{event_done}

-- "H address."
abbrev pub hub_text : ℕ → List ℕ
hub_text address = ascii "H " ++ hex_byte address

-- "W first offset, count of values in decimal."
abbrev pub write_text : ℕ → ℕ → List ℕ
write_text offset count = ascii "W " ++ (hex_byte offset ++ (ascii " " ++ decimal count))

-- "R offset, value."
abbrev pub read_text : ℕ → ℕ → List ℕ
read_text offset value = ascii "R " ++ (hex_byte offset ++ (ascii " " ++ hex_byte value))

-- "each device as port:address (s before the address for a serializer)", after a space
abbrev pub remote_text : Remote → List ℕ
remote_text (Serializer address) = ascii "s" ++ hex_byte address
remote_text (Target number address) = hex_byte address

unfoldable pub device_text : PortDevice → List ℕ
device_text device = ascii " " ++ (decimal device.port ++ (ascii ":" ++ remote_text device.remote))

unfoldable pub devices_text : List PortDevice → List ℕ
devices_text [] = []
devices_text (device ∷ devices) = device_text device ++ devices_text devices

-- "A address, w or r, then hub, none, or each device"
abbrev pub addressed_text : {A : Type 0} → (A → List ℕ) → Addressed A → List ℕ
addressed_text show the_hub = ascii " hub"
addressed_text show no_device = ascii " none"
addressed_text show (found devices) = show devices

abbrev pub question_text : ℕ → List ℕ → List ℕ
question_text address rest = ascii "A " ++ (hex_byte address ++ rest)

abbrev pub write_question_text : ℕ → Addressed (List PortDevice) → List ℕ
write_question_text address who = question_text address (ascii " w" ++ addressed_text devices_text who)

abbrev pub read_question_text : ℕ → Addressed PortDevice → List ℕ
read_question_text address who = question_text address (ascii " r" ++ addressed_text device_text who)

-- "S, L, E: port, then drop, or output and the four header bytes run together."
abbrev pub event_letter : EventKind → ℕ
event_letter Start = code "S"
event_letter PixelLine = code "L"
event_letter End = code "E"

abbrev pub port_text : EventKind → ℕ → List ℕ
port_text event port = event_letter event ∷ (ascii " " ++ (decimal port ++ ascii " "))

abbrev pub outcome_text : Outcome (List ℕ) → List ℕ
outcome_text dropped = ascii "drop"
outcome_text (sent csi header) = decimal csi ++ (ascii " " ++ hex_bytes header)

abbrev pub event_text : EventKind → ℕ → Outcome (List ℕ) → List ℕ
event_text event port outcome = port_text event port ++ outcome_text outcome

-- "a letter and fields, separated by single spaces"
unfoldable pub answer_text : Answer → List ℕ
answer_text (hub_made address) = hub_text address
answer_text (values_written offset count) = write_text offset count
answer_text (register_read offset value) = read_text offset value
answer_text (write_heard address who) = write_question_text address who
answer_text (read_answered address who) = read_question_text address who
answer_text (event_done event port outcome) = event_text event port outcome

-- "A refusal prints ! and its number instead." (A detail, which no refusal of the player has yet, follows after a
-- space.)
abbrev pub detail_text : Option ℕ → List ℕ
detail_text none = []
detail_text (some detail) = ascii " " ++ decimal detail

unfoldable pub reply_text : Reply Answer → List ℕ
reply_text (refused_with number detail) = ascii "! " ++ (decimal number ++ detail_text detail)
reply_text (given answer) = answer_text answer

-- "one line a record: its number from 1, then a letter and fields, separated by single spaces"
unfoldable pub printed_line : ℕ → Reply Answer → List ℕ
printed_line number reply = decimal number ++ (ascii " " ++ (reply_text reply ++ ascii "\n"))

-- "Last line: records and refused with their counts."
unfoldable pub printed_counts : ℕ → ℕ → List ℕ
printed_counts records refusals =
    ascii "records " ++ (decimal records ++ (ascii " refused " ++ (decimal refusals ++ ascii "\n")))
