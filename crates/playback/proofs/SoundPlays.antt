-- What every record's play has: a packet buffer of the same length, a short line, and no refusal for room where 6,150 bytes are lent.
-- Assumes nothing.
use Rattle.std.proofs.Common.{◌≡◌, ℕ, ◌≤◌, Bool, true, false, List, length, replicate, sym, refl, ⊎_elim, arith}
use mathlib.Core.Option.{Option}
use Rattle.laws.specs.Reply.{Reply, refused_with, given, on_reply}
use Rattle.laws.proofs.Absurd.{zero_not_one}
use Rattle.laws.proofs.Buffers.{length-written}
use Rattle.laws.proofs.Replies.{on_refused}
use Rattle.registers.specs.declared.power_up.PowerUp.{PowerUp}
use Rattle.registers.specs.PowerUps.{power_up_file}
use Rattle.hub.specs.declared.Hub.{Hub}
use Rattle.hub.specs.Hubs.{is_hub_address}
use Rattle.hub.proofs.Hubs.{created, not_created}
use Rattle.translation.specs.Translation.{who_hears_write, who_answers_read}
use Rattle.translation.proofs.Refusals.{write_refused, read_refused}
use Rattle.frames.specs.Events.{Event, start_event, pixel_line_event, end_event, Outcome, dropped, sent, event_reply, hub_after, buffer_after}
use Rattle.frames.proofs.EventSizes.{EventFits, event_fits}
use Rattle.trace.specs.Records.{TraceRecord, hub_record, write_record, read_record, write_question, read_question, start_record, end_record, pixel_line_record, record_of}
use Rattle.trace.proofs.KindLaws.{by_any}
use Rattle.answers.specs.declared.EventKind.{EventKind}
use Rattle.answers.specs.declared.EventKind.TheVariants.{Start, PixelLine, End}
use Rattle.answers.specs.Answers.{Answer, write_heard, read_answered}
use Rattle.printing.proofs.LineLengths.{Short, write_short, read_short, event_short}
use Rattle.playback.specs.Playing.{Played, answering, event_shown, play_event, play_asked, play_record, packet_room}

-- a reply that is not refused for room
abbrev NotEight : Reply Answer → Type 0
NotEight reply = (detail : Option ℕ) → reply ≡ refused_with 8 detail → ⊥

pub record Sound (packets : List ℕ) (played : Played) : Type 0 where
  pub room : length played.packets ≡ length packets
  pub not_eight : packet_room ≤ length packets → NotEight played.reply
  pub short : Short played.reply

-- what is given, and what is refused by another number
not-given : (answer : Answer) → NotEight (given answer)
not-given answer detail e = zero_not_one (cc)

not_by : (number : ℕ) (other : Option ℕ) → (number ≡ 8 → ⊥) → NotEight (refused_with number other)
not_by number other h detail e = h cc

module _ (hub : Hub) (packets : List ℕ) where
  hub_sound : (address : ℕ) (start : PowerUp) → Sound packets (play_asked hub packets (hub_record address start))
  unfolding play_asked
  hub_sound address start = go (is_hub_address address) refl
    where
      go : (b : Bool) → is_hub_address address ≡ b → Sound packets (play_asked hub packets (hub_record address start))
      go true e = rw (created (power_up_file start) address e) (record { room = refl; not_eight = λ h. not-given _; short = tt })
      go false e = rw (not_created (power_up_file start) address e) (record { room = refl; not_eight = λ h. not_by 2 _ (λ q. omega arith); short = tt })

  event_sound : (kind : EventKind) (port : ℕ) (event : Event) → Sound packets (play_event hub packets kind port event)
  event_sound kind port event = go (event_reply hub event (length packets) 0) (event_fits (length packets) 0 hub event)
    where
      go : (reply : Reply (Outcome (List ℕ))) → EventFits (length packets) 0 reply
          → Sound packets (answering (hub_after hub event reply) (buffer_after packets 0 reply) (on_reply (event_shown kind port) reply))
      go (refused_with number detail) f = record { room = refl; not_eight = λ h. not_by number detail (λ q. omega (arith, f q)); short = tt }
      go (given dropped) f = record { room = refl; not_eight = λ h. not-given _; short = tt }
      go (given (sent csi packet)) f =
          record {
            room = length-written packets 0 packet f.1;
            not_eight = λ h. not-given _;
            short = event_short kind port (given (sent csi packet));
          }

  asked_sound : (asked : TraceRecord) → Sound packets (play_asked hub packets asked)
  unfolding play_asked
  asked_sound (hub_record address start) = hub_sound address start
  asked_sound (write_record offset values) = record { room = refl; not_eight = λ h. not-given _; short = tt }
  asked_sound (read_record offset) = record { room = refl; not_eight = λ h. not-given _; short = tt }
  asked_sound (write_question address) =
      record {
        room = refl;
        not_eight = λ h detail e.
            let two = write_refused hub address (on_refused (write_heard address) (who_hears_write hub address) (sym e)) in omega arith;
        short = write_short hub address;
      }
  asked_sound (read_question address) =
      record {
        room = refl;
        not_eight = λ h detail e.
            ⊎_elim (λ q. omega arith) (λ q. omega arith) (read_refused hub address (on_refused (read_answered address) (who_answers_read hub address) (sym e)));
        short = read_short address (who_answers_read hub address);
      }
  asked_sound (start_record port bits) = event_sound Start port (start_event port bits)
  asked_sound (end_record port) = event_sound End port (end_event port)
  asked_sound (pixel_line_record port width pixel) = event_sound PixelLine port (pixel_line_event port (replicate width pixel))

  -- what is refused as no record too
  pub found_sound : (first : Bool) (bytes : List ℕ) → Sound packets (play_record hub packets (record_of first bytes))
  found_sound first bytes =
      by_any (λ found. Sound packets (play_record hub packets found))
      (record { room = refl; not_eight = λ h. not_by 13 _ (λ q. omega arith); short = tt })
      first bytes asked_sound
