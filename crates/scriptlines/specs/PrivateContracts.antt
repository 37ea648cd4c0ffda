-- How the contracts of the private functions are stated: no rule of the papers.
-- Assumes nothing.
use Rattle.std.specs.Prelude.{◌≡◌, ℕ, ◌≤◌, List, length}
use Rattle.scriptlines.specs.declared.LinesTaken.{LinesTaken}
use Rattle.scriptlines.specs.TakenLines.{LinesState, lines_state_of, take_line}

-- one line of the window was taken
pub record TakesLine (before : LinesState) (taken : LinesTaken) (out : List ℕ) : Type 0 where
  pub state : lines_state_of before.left taken out ≡ take_line before
  pub used : taken.used ≤ length before.left
