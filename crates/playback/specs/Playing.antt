-- What the player prints for a trace, and the hub at its end: document 01, "The trace and the player".
-- Assumes nothing.
use Rattle.std.specs.Prelude.{ℕ, zero, suc, ◌+◌, Bool, true, false, cond, List, [], ◌∷◌, ◌++◌, length, take, drop}
use Rattle.std.specs.Prelude.{replicate, ◌==◌}
use mathlib.Core.List.{Memᴰ}
use Rattle.std.proofs.Math.Option.{Option}
use Rattle.laws.specs.Reply.{Reply, refused_with, given, on_reply, is_refused}
use Rattle.registers.specs.declared.power_up.PowerUp.TheVariants.{Boot}
use Rattle.hub.specs.declared.Hub.{Hub}
use Rattle.hub.specs.Hubs.{hub_at, creation_of, hub_burst, hub_read}
use Rattle.translation.specs.Translation.{who_hears_write, who_answers_read}
use Rattle.frames.specs.Events.{Event, start_event, pixel_line_event, end_event, Outcome, on_outcome}
use Rattle.frames.specs.Events.{event_reply, hub_after, buffer_after}
use Rattle.trace.specs.Framing.{record_length}
use Rattle.trace.specs.Records.{TraceRecord, hub_record, write_record, read_record, write_question, read_question}
use Rattle.trace.specs.Records.{start_record, end_record, pixel_line_record, record_of}
use Rattle.answers.specs.declared.EventKind.{EventKind}
use Rattle.answers.specs.declared.EventKind.TheVariants.{Start, PixelLine, End}
use Rattle.answers.specs.Answers.{Answer, hub_made, values_written, register_read, write_heard, read_answered}
use Rattle.answers.specs.Answers.{event_done}
use Rattle.printing.specs.PrintedLines.{printed_line, printed_counts}

-- What a record does: the hub after it, its answer, the lent packet buffer after it, and whether it ends the run.
pub record Played : Type 0 where
  pub hub : Hub
  pub reply : Reply Answer
  pub packets : List ℕ
  pub ends : Bool

-- "It, or 2 in record 1, ends the run"
abbrev pub ending : Hub → List ℕ → Reply Answer → Played
ending hub packets reply = record { hub = hub; reply = reply; packets = packets; ends = true }

abbrev pub answering : Hub → List ℕ → Reply Answer → Played
answering hub packets reply = record { hub = hub; reply = reply; packets = packets; ends = false }

abbrev pub play_hub : Hub → List ℕ → ℕ → Reply Hub → Played
play_hub hub packets address (refused_with number detail) = ending hub packets (refused_with number detail)
play_hub hub packets address (given made) = answering made packets (given (hub_made address))

-- a frame event; its packet is written at the start of the lent buffer, and its line shows "the four header bytes"
abbrev pub event_shown : EventKind → ℕ → Outcome (List ℕ) → Answer
event_shown kind port outcome = event_done kind port (on_outcome (take 4) outcome)

abbrev pub play_event : Hub → List ℕ → EventKind → ℕ → Event → Played
play_event hub packets kind port event =
    let reply = event_reply hub event (length packets) 0 in
    answering (hub_after hub event reply) (buffer_after packets 0 reply) (on_reply (event_shown kind port) reply)

-- what a record asks is done
unfoldable pub play_asked : Hub → List ℕ → TraceRecord → Played
play_asked hub packets (hub_record address start) = play_hub hub packets address (creation_of start address)
play_asked hub packets (write_record offset values) =
    answering (hub_burst hub offset values) packets (given (values_written offset (length values)))
play_asked hub packets (read_record offset) = answering hub packets (given (register_read offset (hub_read hub offset)))
play_asked hub packets (write_question address) =
    answering hub packets (on_reply (write_heard address) (who_hears_write hub address))
play_asked hub packets (read_question address) =
    answering hub packets (on_reply (read_answered address) (who_answers_read hub address))
play_asked hub packets (start_record port bits) = play_event hub packets Start port (start_event port bits)
play_asked hub packets (end_record port) = play_event hub packets End port (end_event port)
play_asked hub packets (pixel_line_record port width pixel) =
    play_event hub packets PixelLine port (pixel_line_event port (replicate width pixel))

-- what the bytes hold is played; "Refusal 13 is tested before all others."
abbrev pub play_record : Hub → List ℕ → Reply TraceRecord → Played
play_record hub packets (refused_with number detail) = ending hub packets (refused_with number detail)
play_record hub packets (given asked) = play_asked hub packets asked

-- What comes of the records of some bytes: the answers to them, and the hub after them.
pub record PlayedRecords : Type 0 where
  pub answers : List (Reply Answer)
  pub hub : Hub

abbrev pub none_left : Hub → PlayedRecords
none_left hub = record { answers = []; hub = hub }

abbrev pub answer_then : Reply Answer → PlayedRecords → PlayedRecords
answer_then reply later = record { answers = reply ∷ later.answers; hub = later.hub }

-- The records of some bytes, at most n of them; `first` where the first of them is the trace's first. "It, or 2 in
-- record 1, ends the run; that record is printed and counted."
unfoldable pub play_records : ℕ → Bool → Hub → List ℕ → List ℕ → PlayedRecords
play_records zero first hub packets bytes = none_left hub
play_records (suc n) first hub packets bytes =
    let played = play_record hub packets (record_of first bytes) in
    let rest = drop (record_length bytes) bytes in
    cond (length bytes == 0) (none_left hub)
    (answer_then played.reply
    (cond played.ends (none_left played.hub) (play_records n false played.hub played.packets rest)))

-- "lends 6,150 bytes for packets"
abbrev pub packet_room : ℕ
packet_room = 6150

-- The records of a file: no record has no bytes, so there are at most as many as bytes. (Before record 1 there is no
-- hub; the one here is not asked.)
abbrev pub play_file : List ℕ → PlayedRecords
play_file file = play_records (length file) true (hub_at Boot 0x08) (replicate packet_room 0) file

-- the answers to them, and the hub at the end of the file ("end state", L1)
abbrev pub answers_of : List ℕ → List (Reply Answer)
answers_of file = (play_file file).answers

abbrev pub end_hub : List ℕ → Hub
end_hub file = (play_file file).hub

-- "prints one line a record: its number from 1"
unfoldable pub printed_lines : ℕ → List (Reply Answer) → List ℕ
printed_lines number [] = []
printed_lines number (reply ∷ replies) = printed_line number reply ++ printed_lines (suc number) replies

unfoldable pub refused_among : List (Reply Answer) → ℕ
refused_among [] = 0
refused_among (reply ∷ replies) = cond (is_refused reply) 1 0 + refused_among replies

-- "Last line: records and refused with their counts. An empty file gives only that." (A count has at most 20 digits
-- here: no file has 10 ^ 20 records.)
abbrev pub player_text : List ℕ → List ℕ
player_text file =
    printed_lines 1 (answers_of file) ++ printed_counts (length (answers_of file)) (refused_among (answers_of file))

-- A law: "(so 8 never occurs)"
abbrev pub EightNeverOccurs : Type 0
EightNeverOccurs = (file : List ℕ) (detail : Option ℕ) → Memᴰ (refused_with 8 detail) (answers_of file) → ⊥
