-- A run through a trace file, turn by turn. However the file's bytes are read, the run ends, its text is the player's,
-- and the hub at its end is that of the file.
-- Assumes nothing.
use Rattle.std.specs.Prelude.{◌≡◌, Bool, true, List, ◌++◌, ℕ, ◌+◌, ◌*◌, ◌^◌, ◌≤◌, ◌<◌, length, take, replicate}
use Rattle.laws.specs.Buffers.{written}
use Rattle.laws.specs.Elements.{AreBytes}
use Rattle.streams.specs.Streams.{new_window, after_read, nothing_left, Work, Way, way_from, TurnInput, all_turns}
use Rattle.streams.specs.Streams.{AllLend}
use Rattle.streams.specs.Streams.{StandsAt, ReadGave, IsNextTurn}
use Rattle.trace.specs.Framing.{longest_record}
use Rattle.printing.specs.PrintedLines.{printed_counts}
use Rattle.playback.specs.declared.Session.{Session}
use Rattle.playback.specs.Playing.{packet_room, player_text, end_hub}
use Rattle.playback.specs.Windows.{new_session, WindowState, state_at, play_window, text_room}
use Rattle.turns.specs.declared.FileRun.{FileRun}
use Rattle.turns.specs.declared.TurnEnd.{TurnEnd}

abbrev pub new_file_run : FileRun
new_file_run = record { session = new_session; window = new_window }

-- the bytes of a window, played from its start as the player's definition says
abbrev pub window_played : Bool → Session → List ℕ → List ℕ → List ℕ → WindowState
window_played last session packets bytes out =
    play_window (length bytes) last (state_at session bytes packets out 0)

-- The bytes were played; what is left of them stands at the start of the buffer, and the rest of the buffer stays.
pub record TurnMade (last : Bool) (after : WindowState) (buffer : List ℕ)
    (result : TurnEnd) (buffer_after packets out : List ℕ) : Type 0 where
  pub session : result.run.session ≡ after.session
  pub window : result.run.window ≡ record { held = length after.left; last = last }
  pub left : buffer_after ≡ written buffer 0 after.left
  pub fits : length after.left ≤ length buffer
  pub packet_buffer : packets ≡ after.packets
  pub text : out ≡ after.out
  pub end : result.end ≡ after.at
  pub inside : after.at ≤ length out
  pub done : result.done ≡ nothing_left after.session.ended last (length after.left)

-- a turn plays the bytes that the window holds after the read
abbrev pub MakesTurn : FileRun → ℕ → List ℕ → List ℕ → List ℕ → TurnEnd → List ℕ → List ℕ → List ℕ → Type 0
MakesTurn run got buffer packets out result buffer_after packetsAfter outAfter =
    let window = after_read run.window got (length buffer) in
    TurnMade window.last (window_played window.last run.session packets (take window.held buffer) out) buffer
    result buffer_after packetsAfter outAfter

-- The same as work on a file (`streams`): the state is the session with the lent packet buffer, and what is put out is
-- the text.
pub record PlayState : Type 0 where
  pub session : Session
  pub packets : List ℕ

abbrev pub playing : Work PlayState
playing last state bytes lent =
    let after = window_played last state.session state.packets bytes lent in
    record {
      state = record { session = after.session; packets = after.packets };
      left = after.left;
      put = take after.at after.out;
      over = after.session.ended;
    }

abbrev pub play_start : PlayState
play_start = record { session = new_session; packets = replicate packet_room 0 }

-- A turn of the source is a turn of that work: where the program stands at a way through a file, and its read gave what
-- the way's next turn reads, its turn is that turn.
abbrev pub TurnIsNext : Type 0
TurnIsNext =
    (way : Way PlayState) (input : TurnInput) (run : FileRun) (got : ℕ) (buffer packets : List ℕ) (result : TurnEnd)
    (buffer_after packetsAfter outAfter : List ℕ)
    → StandsAt way (record { session = run.session; packets = packets }) run.window buffer
    → ReadGave way input run.window got buffer
    → MakesTurn run got buffer packets input.lent result buffer_after packetsAfter outAfter
    → IsNextTurn playing (length buffer) way input
    (record { session = result.run.session; packets = packetsAfter }) result.run.window buffer_after
    (take result.end outAfter) result.done

-- the run through the whole file, to its end
pub record PlaysFile (file : List ℕ) (end : Way PlayState) : Type 0 where
  pub done : end.done ≡ true
  pub text : end.put ++ printed_counts end.state.session.records end.state.session.refusals ≡ player_text file
  pub hub : end.state.session.hub ≡ end_hub file

-- However the bytes of a file are read, into a buffer of any size that holds a record: the run ends within so many
-- turns, with the player's text and the hub of the file's end.
abbrev pub HoweverCut : Type 0
HoweverCut =
    (file : List ℕ) (size : ℕ) (inputs : List TurnInput) → AreBytes file → length file < 2 ^ 64
    → longest_record ≤ size → AllLend text_room inputs → 2 * length file + 1 ≤ length inputs
    → PlaysFile file (all_turns playing size (way_from play_start file) inputs)
