-- How the source gathers four pixels in a word: no rule of the papers.
-- Assumes nothing.
use Rattle.std.specs.Prelude.{ℕ, ◌+◌, ◌*◌, ◌/◌, ◌%◌}

-- four numbers of 16 bits as one, the first lowest
abbrev pub word : ℕ → ℕ → ℕ → ℕ → ℕ
word a b c d = a + 0x10000 * b + 0x100000000 * c + 0x1000000000000 * d

-- the four pairs of bits in a byte, each in a number of 16 bits
unfoldable pub spread_pairs : ℕ → ℕ
spread_pairs low = word (low % 4) (low / 4 % 4) (low / 16 % 4) (low / 64)
