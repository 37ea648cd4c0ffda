-- How the contracts of the private functions are stated: no rule of the papers.
-- Assumes nothing.
use Rattle.std.specs.Prelude.{◌≡◌, ℕ, ◌≤◌, List, [], ◌∷◌, length, slice_index}
use Rattle.answers.specs.Answers.{answer_reply}
use Rattle.playback.specs.declared.WindowPlayed.{WindowPlayed}
use Rattle.playback.specs.declared.record.RecordPlayed.{RecordPlayed}
use Rattle.playback.specs.Playing.{Played}
use Rattle.playback.specs.Windows.{WindowState, state_of, play_one}

-- what was played, and the lent packet buffer after it, as the definition has it
abbrev pub played_of : RecordPlayed → List ℕ → Played
played_of result packets =
    record { hub = result.hub; reply = answer_reply result.answer; packets = packets; ends = result.ends }

-- the four bytes at the start
abbrev pub first_four : List ℕ → List ℕ
first_four bytes = slice_index bytes 0 ∷ slice_index bytes 1 ∷ slice_index bytes 2 ∷ slice_index bytes 3 ∷ []

-- one record of the window was played
pub record PlaysOne (before : WindowState) (played : WindowPlayed) (packets out : List ℕ) : Type 0 where
  pub state : state_of before.left played packets out ≡ play_one before
  pub used : played.used ≤ length before.left
