-- How the source tests that every pixel of a line fits: no rule of the papers.
-- Assumes nothing.
use Rattle.std.specs.Prelude.{List, [], ◌∷◌, ℕ}
use Rattle.std.specs.Int.Bits.{bit_or}

-- the bits that are set in any of the pixels
unfoldable pub or_all : List ℕ → ℕ
or_all [] = 0
or_all (pixel ∷ pixels) = bit_or pixel (or_all pixels)
