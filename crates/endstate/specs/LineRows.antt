-- How the source holds lines, in a row of twelve numbers: the lines, then zeros. No rule of the papers.
-- Assumes nothing.
use Rattle.std.specs.Prelude.{◌≡◌, cond, List, [], ◌∷◌, ◌++◌, ℕ, ◌≤◌, eqb, length, take, replicate}
use Rattle.endstate.specs.declared.lines.Lines.{Lines}
use Rattle.endstate.specs.RisingLines.{lesser_of, greater_of, rising_lines}

-- the numbers before the first zero
unfoldable pub before_zero : List ℕ → List ℕ
before_zero [] = []
before_zero (number ∷ numbers) = cond (eqb number 0) [] (number ∷ before_zero numbers)

-- the lines of a row
abbrev pub lines_of : Lines → List ℕ
lines_of lines = before_zero lines.numbers

-- the row of some lines: the first twelve, then zeros
unfoldable pub lines_row : List ℕ → Lines
lines_row lines = record { numbers = take 12 (lines ++ replicate 12 0) }

-- One line more, place by place: what stays where a number is carried to the one there, and what is carried on. 0 is
-- not carried.
abbrev pub placed_at : ℕ → ℕ → ℕ
placed_at carried there = cond (eqb carried 0) there (lesser_of carried there)

abbrev pub carried_on : ℕ → ℕ → ℕ
carried_on carried there = cond (eqb carried 0) 0 (cond (eqb carried there) 0 (greater_of carried there))

-- the row of these lines has all of them
abbrev pub RowHas : List ℕ → Type 0
RowHas lines = lines_of (lines_row lines) ≡ lines

-- so it is with the lines among at most twelve numbers
abbrev pub RowHolds : Type 0
RowHolds = (numbers : List ℕ) → length numbers ≤ 12 → RowHas (rising_lines numbers)
