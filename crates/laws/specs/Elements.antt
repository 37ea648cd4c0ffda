-- What holds of every element of a list.
-- Assumes nothing.
use Rattle.std.specs.Prelude.{List, ℕ, ◌<◌, get_or}

-- every element is below the limit, which is positive (past the list's end get_or has 0)
abbrev pub AllBelow : ℕ → List ℕ → Type 0
AllBelow limit l = (i : ℕ) → get_or l i 0 < limit

-- In a definition a slice of bytes is a list of numbers. Every such slice meets this.
abbrev pub AreBytes : List ℕ → Type 0
AreBytes bytes = AllBelow 256 bytes
