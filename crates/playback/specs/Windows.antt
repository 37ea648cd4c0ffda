-- How the source plays a window of a file, and the laws that make it right: what is printed for a window is the next
-- part of the player's text.
-- Assumes nothing.
use Rattle.std.specs.Prelude.{◌≡◌, ℕ, zero, suc, ◌+◌, ◌%◌, ◌^◌, ◌<◌, ◌≤◌, Bool, true, false, cond, not, ◌&&◌, List, []}
use Rattle.std.specs.Prelude.{◌++◌, length, drop, replicate, ◌==◌}
use Rattle.laws.specs.Reply.{is_refused}
use Rattle.laws.specs.Buffers.{written, has_room}
use Rattle.registers.specs.declared.power_up.PowerUp.TheVariants.{Boot}
use Rattle.hub.specs.declared.Hub.{Hub}
use Rattle.hub.specs.Hubs.{hub_at}
use Rattle.trace.specs.Framing.{record_length, holds_record}
use Rattle.trace.specs.Records.{record_of}
use Rattle.printing.specs.PrintedLines.{printed_line, printed_counts}
use Rattle.playback.specs.declared.Session.{Session}
use Rattle.playback.specs.declared.WindowPlayed.{WindowPlayed}
use Rattle.playback.specs.Playing.{Played, play_record, PlayedRecords, none_left, play_records, packet_room, end_hub}
use Rattle.playback.specs.Playing.{printed_lines, refused_among, player_text}

-- the player before record 1
abbrev pub new_session : Session
new_session = record { hub = hub_at Boot 0x08; records = 0; refusals = 0; ended = false }

abbrev pub is_first : Session → Bool
is_first session = session.records == 0

-- what the next bytes of the file come to
abbrev pub played_next : Session → List ℕ → List ℕ → Played
played_next session packets left = play_record session.hub packets (record_of (is_first session) left)

-- the session after a record; its counts have 64 bits
unfoldable pub session_after : Session → Played → Session
session_after session played =
    record {
      hub = played.hub;
      records = (session.records + 1) % 2 ^ 64;
      refusals = (session.refusals + cond (is_refused played.reply) 1 0) % 2 ^ 64;
      ended = played.ends;
    }

-- A window is being played: the session, the bytes of the window that are left, the lent packet buffer, and the lent
-- buffer for text with the next free place.
pub record WindowState : Type 0 where
  pub session : Session
  pub left : List ℕ
  pub packets : List ℕ
  pub out : List ℕ
  pub at : ℕ

abbrev pub state_at : Session → List ℕ → List ℕ → List ℕ → ℕ → WindowState
state_at session left packets out at =
    record { session = session; left = left; packets = packets; out = out; at = at }

-- what came of a window, and the lent buffers after it, as the definition has it
abbrev pub state_of : List ℕ → WindowPlayed → List ℕ → List ℕ → WindowState
state_of window played packets out =
    state_at played.session (drop played.used window) packets out played.next

-- Ours: a record is played where so many bytes are free for its line, more than any line needs.
abbrev pub text_room : ℕ
text_room = 128

-- There is something to play: the run has not ended; a line has room; and the window holds a whole record or, at the
-- file's end (`last`), any byte.
unfoldable pub may_play_next : Session → List ℕ → Bool → ℕ → ℕ → Bool
may_play_next session left last size at =
    not session.ended && has_room size at text_room && cond last (not (length left == 0)) (holds_record left)

abbrev pub may_play : Bool → WindowState → Bool
may_play last state = may_play_next state.session state.left last (length state.out) state.at

-- one record
unfoldable pub play_one : WindowState → WindowState
play_one state =
    let played = played_next state.session state.packets state.left in
    let next = session_after state.session played in
    let text = printed_line next.records played.reply in
    record {
      session = next;
      left = drop (record_length state.left) state.left;
      packets = played.packets;
      out = written state.out state.at text;
      at = state.at + length text;
    }

-- the window's records, at most n of them
unfoldable pub play_window : ℕ → Bool → WindowState → WindowState
play_window zero last state = state
play_window (suc n) last state = cond (may_play last state) (play_window n last (play_one state)) state

-- A window was played as far as it could be; the next free place stays inside the lent buffer.
pub record PlaysWindow (last : Bool) (before : WindowState) (played : WindowPlayed)
    (packets out : List ℕ) : Type 0 where
  pub state : state_of before.left played packets out ≡ play_window (length before.left) last before
  pub used : played.used ≤ length before.left
  pub place : before.at ≤ length before.out → played.next ≤ length out

-- How a run ends from a session on: the text that is still to be printed, and the hub at the end.
pub record RunEnd : Type 0 where
  pub text : List ℕ
  pub hub : Hub

-- the end where those records are still to come, with the counts so far
abbrev pub end_of : ℕ → ℕ → PlayedRecords → RunEnd
end_of records refusals played =
    record {
      text = printed_lines (records + 1) played.answers
          ++ printed_counts (records + length played.answers) (refusals + refused_among played.answers);
      hub = played.hub;
    }

-- the records that are still to come, with those bytes of the file left
abbrev pub play_left : Session → List ℕ → List ℕ → PlayedRecords
play_left session packets left =
    cond session.ended (none_left session.hub)
    (play_records (length left) (is_first session) session.hub packets left)

unfoldable pub end_from : Session → List ℕ → List ℕ → RunEnd
end_from session packets left = end_of session.records session.refusals (play_left session packets left)

-- some text, and then the end
abbrev pub text_then : List ℕ → RunEnd → RunEnd
text_then text end = record { text = text ++ end.text; hub = end.hub }

-- the end of a run through a file, from its start
abbrev pub file_end : List ℕ → RunEnd
file_end file = record { text = player_text file; hub = end_hub file }

-- the last line alone, and the hub is the session's
abbrev pub session_end : Session → RunEnd
session_end session = record { text = printed_counts session.records session.refusals; hub = session.hub }

-- a session that counts right: there are fewer than 2 ^ 64 records, since there are fewer bytes
abbrev pub CountsFit : Session → List ℕ → Type 0
CountsFit session left = (session.records + length left < 2 ^ 64) × (session.refusals + length left < 2 ^ 64)

-- At first all of the player's text is to come, and the hub at the file's end; at the end the last line alone, and
-- the hub is the session's.
abbrev pub StartsWithAll : Type 0
StartsWithAll = (file : List ℕ) → end_from new_session (replicate packet_room 0) file ≡ file_end file

abbrev pub EndsWithCounts : Type 0
EndsWithCounts =
    (session : Session) (packets left : List ℕ) → cond session.ended true (length left == 0) ≡ true
    → end_from session packets left ≡ session_end session

-- What a window prints is the next part of the text that is to come, and the hub at the end stays the same, whatever
-- follows the window in the file (at the file's end, nothing).
pub record PrintsNext (rest : List ℕ) (before after : WindowState) : Type 0 where
  pub text : List ℕ
  pub stored : after.out ≡ written before.out before.at text
  pub place : after.at ≡ before.at + length text
  pub inside : after.at ≤ length before.out
  pub printed : end_from before.session before.packets (before.left ++ rest)
      ≡ text_then text (end_from after.session after.packets (after.left ++ rest))
  pub counts : CountsFit after.session (after.left ++ rest)

abbrev pub WindowsPrint : Type 0
WindowsPrint =
    (n : ℕ) (last : Bool) (rest : List ℕ) (before : WindowState) → (last ≡ true → rest ≡ [])
    → before.at ≤ length before.out → CountsFit before.session (before.left ++ rest)
    → PrintsNext rest before (play_window n last before)

-- and a window is played as far as it can be, where as many records are allowed as it has bytes
abbrev pub PlaysOut : Type 0
PlaysOut =
    (n : ℕ) (last : Bool) (before : WindowState) → length before.left ≤ n
    → may_play last (play_window n last before) ≡ false
