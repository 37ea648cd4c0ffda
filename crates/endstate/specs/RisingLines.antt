-- The lines that explain a fact: "lines and ports rise, each once, and are empty where there are none". 0 is no line.
-- Assumes nothing.
use Rattle.std.specs.Prelude.{◌≡◌, Bool, true, false, cond, not, ◌&&◌, ℕ, ◌≤◌, ◌<◌, eqb, ltb, length}
use mathlib.Core.List.{List, [], ◌∷◌, Memᴰ}

abbrev pub lesser_of : ℕ → ℕ → ℕ
lesser_of a b = cond (ltb a b) a b

abbrev pub greater_of : ℕ → ℕ → ℕ
greater_of a b = cond (ltb a b) b a

-- a number put in its place among numbers that rise: the lesser of two stands first, equal ones stand once
unfoldable pub in_place : ℕ → List ℕ → List ℕ
in_place number [] = number ∷ []
in_place number (first ∷ others) =
    cond (eqb number first) (first ∷ others)
    (lesser_of number first ∷ in_place (greater_of number first) others)

-- one more; no line adds nothing
unfoldable pub with_line : ℕ → List ℕ → List ℕ
with_line number lines = cond (eqb number 0) lines (in_place number lines)

-- the lines among some numbers
unfoldable pub rising_lines : List ℕ → List ℕ
rising_lines [] = []
rising_lines (number ∷ numbers) = with_line number (rising_lines numbers)

-- each number is above the one before, and the first is above `low`
abbrev pub RisesAbove : ℕ → List ℕ → Type 0
RisesAbove low [] = Unit
RisesAbove low (first ∷ others) = (low < first) × RisesAbove first others

-- The lines rise, without 0, and are exactly the numbers that were put, except 0.
pub record LinesMean (numbers : List ℕ) : Type 0 where
  pub rise : RisesAbove 0 (rising_lines numbers)
  pub only : (line : ℕ) → Memᴰ line (rising_lines numbers) → Memᴰ line numbers × (line ≡ 0 → ⊥)
  pub every : (line : ℕ) → Memᴰ line numbers → (line ≡ 0 → ⊥) → Memᴰ line (rising_lines numbers)
  pub few : length (rising_lines numbers) ≤ length numbers

abbrev pub EveryLine : Type 0
EveryLine = (numbers : List ℕ) → LinesMean numbers

-- each of the numbers is this line
unfoldable pub all_are : ℕ → List ℕ → Bool
all_are line [] = true
all_are line (number ∷ numbers) = eqb number line && all_are line numbers

-- "all of these have one and the same line as origin": one that has its start value has no line
unfoldable pub one_line : List ℕ → Bool
one_line [] = false
one_line (line ∷ others) = not (eqb line 0) && all_are line others

pub record OneLine (numbers : List ℕ) : Type 0 where
  pub line : ℕ
  pub is_line : line ≡ 0 → ⊥
  pub some : Memᴰ line numbers
  pub all : (number : ℕ) → Memᴰ number numbers → number ≡ line

pub record OneLineMeans (numbers : List ℕ) : Type 0 where
  pub only : one_line numbers ≡ true → OneLine numbers
  pub every : OneLine numbers → one_line numbers ≡ true

abbrev pub OneLineExact : Type 0
OneLineExact = (numbers : List ℕ) → OneLineMeans numbers
