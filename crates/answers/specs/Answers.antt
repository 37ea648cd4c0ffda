-- What the records of a trace are answered: document 01, "The trace and the player".
-- Assumes nothing.
use Rattle.std.specs.Prelude.{List, [], ◌∷◌, ℕ, Result}
use Rattle.laws.specs.Reply.{Reply, refused, given, on_reply, reply_by}
use Rattle.hub.specs.declared.AddressOutOfRange.{AddressOutOfRange}
use Rattle.hub.specs.Refusals.{address_out_of_range_number}
use Rattle.translation.specs.declared.PortDevice.{PortDevice}
use Rattle.translation.specs.Translation.{Addressed, write_reply, read_reply}
use Rattle.frames.specs.Events.{Outcome, on_outcome, event_answer_reply}
use Rattle.answers.specs.declared.NoRecord.{NoRecord as NoRecordRefusal}
use Rattle.answers.specs.declared.Header.{Header}
use Rattle.answers.specs.declared.EventKind.{EventKind}
use Rattle.answers.specs.declared.RecordAnswer.{RecordAnswer}
use Rattle.answers.specs.declared.RecordAnswer.TheVariants.{NoRecord, Hub, Write, Read}
use Rattle.answers.specs.declared.RecordAnswer.TheVariants.{WriteQuestion, ReadQuestion, FrameEvent}

-- What a record is answered that is not refused: "H address. W first offset, count of values [...]. R offset, value.
-- A address, w or r, then hub, none, or each device [...]. S, L, E: port, then drop, or output and the four header
-- bytes".
pub data Answer : Type 0 where
  hub_made : (address : ℕ) → Answer
  values_written : (offset count : ℕ) → Answer
  register_read : (offset value : ℕ) → Answer
  write_heard : (address : ℕ) (who : Addressed (List PortDevice)) → Answer
  read_answered : (address : ℕ) (who : Addressed PortDevice) → Answer
  event_done : (event : EventKind) (port : ℕ) (outcome : Outcome (List ℕ)) → Answer

-- refusal 13, of bytes that are no record of a trace
abbrev pub no_record_number : NoRecordRefusal → ℕ
no_record_number refusal = 13

-- the paper's number and values for each case of the source's answer
abbrev pub hub_reply : ℕ → Result Unit AddressOutOfRange → Reply Answer
hub_reply address answer = on_reply (λ made. hub_made address) (reply_by address_out_of_range_number answer)

abbrev pub header_list : Header → List ℕ
header_list header =
    header.data_identifier ∷ header.word_count_low ∷ header.word_count_high ∷ header.check_byte ∷ []

-- an event, with the header that its packet has where one was sent
abbrev pub event_with : EventKind → ℕ → List ℕ → Outcome ℕ → Answer
event_with event port header outcome = event_done event port (on_outcome (λ bytes. header) outcome)

abbrev pub answer_reply : RecordAnswer → Reply Answer
answer_reply NoRecord = refused 13
answer_reply (Hub address answer) = hub_reply address answer
answer_reply (Write offset count) = given (values_written offset count)
answer_reply (Read offset value) = given (register_read offset value)
answer_reply (WriteQuestion address answer) = on_reply (write_heard address) (write_reply answer)
answer_reply (ReadQuestion address answer) = on_reply (read_answered address) (read_reply answer)
answer_reply (FrameEvent event port answer header) =
    on_reply (event_with event port (header_list header)) (event_answer_reply answer)
