-- The check byte (ECC) of a packet header: document 01, "Frames and packets".
-- Assumes nothing.
use Rattle.std.specs.Prelude.{List, [], ◌∷◌, ℕ, ◌+◌, ◌*◌, ◌%◌}
use Rattle.laws.specs.Bits.{digit}

-- how many ones stand among the listed bits of a word
unfoldable pub ones_among : List ℕ → ℕ → ℕ
ones_among [] word = 0
ones_among (i ∷ places) word = digit i word + ones_among places word

-- 1 exactly when that is an odd number
abbrev pub odd_among : List ℕ → ℕ → ℕ
odd_among places word = ones_among places word % 2

-- the data bits of each check bit
abbrev pub P0 : List ℕ
P0 = 0 ∷ 1 ∷ 2 ∷ 4 ∷ 5 ∷ 7 ∷ 10 ∷ 11 ∷ 13 ∷ 16 ∷ 20 ∷ 21 ∷ 22 ∷ 23 ∷ []

abbrev pub P1 : List ℕ
P1 = 0 ∷ 1 ∷ 3 ∷ 4 ∷ 6 ∷ 8 ∷ 10 ∷ 12 ∷ 14 ∷ 17 ∷ 20 ∷ 21 ∷ 22 ∷ 23 ∷ []

abbrev pub P2 : List ℕ
P2 = 0 ∷ 2 ∷ 3 ∷ 5 ∷ 6 ∷ 9 ∷ 11 ∷ 12 ∷ 15 ∷ 18 ∷ 20 ∷ 21 ∷ 22 ∷ []

abbrev pub P3 : List ℕ
P3 = 1 ∷ 2 ∷ 3 ∷ 7 ∷ 8 ∷ 9 ∷ 13 ∷ 14 ∷ 15 ∷ 19 ∷ 20 ∷ 21 ∷ 23 ∷ []

abbrev pub P4 : List ℕ
P4 = 4 ∷ 5 ∷ 6 ∷ 7 ∷ 8 ∷ 9 ∷ 16 ∷ 17 ∷ 18 ∷ 19 ∷ 20 ∷ 22 ∷ 23 ∷ []

abbrev pub P5 : List ℕ
P5 = 10 ∷ 11 ∷ 12 ∷ 13 ∷ 14 ∷ 15 ∷ 16 ∷ 17 ∷ 18 ∷ 19 ∷ 21 ∷ 22 ∷ 23 ∷ []

-- "With the three first bytes as bits D0 to D23, low bit of the identifier first, check bit k is 1 exactly when an odd
-- number of ones stands among its data bits [...] Bits 6 and 7 of the check byte are 0." The word is the three bytes as
-- one number, the identifier lowest.
unfoldable pub check_byte : ℕ → ℕ
check_byte word =
    odd_among P0 word + 2 * odd_among P1 word + 4 * odd_among P2 word
    + 8 * odd_among P3 word + 16 * odd_among P4 word + 32 * odd_among P5 word
