-- The checksum's register wider than 16 bits, by which the source goes many bytes a step. No rule of the papers.
-- Assumes nothing.
use Rattle.std.specs.Prelude.{◌≡◌, List, [], ◌∷◌, ℕ, zero, suc, ◌*◌, ◌^◌, ◌≤◌, ◌<◌, length, take, drop}
use Rattle.std.specs.Int.Bits.{bit_xor}
use Rattle.crc.specs.Checksum.{crc_bit, crc_from}
use Rattle.crc.specs.declared.Window.{Window}

-- the register after n zero bits
unfoldable pub shifts : ℕ → ℕ → ℕ
shifts zero register = register
shifts (suc n) register = shifts n (crc_bit register 0)

-- x holds the n bytes from `at` on: they may be added to a register at once, before it moves
pub record Holds (bytes : List ℕ) (at n x : ℕ) : Type 0 where
  pub small : x < 2 ^ (8 * n)
  pub feeds : (c : ℕ) → crc_from c (take n (drop at bytes)) ≡ shifts (8 * n) (bit_xor c x)

-- the register after a word of eight bytes
abbrev pub after_word : ℕ → ℕ → ℕ
after_word register x = shifts 64 (bit_xor register x)

-- the register that a window stands for
abbrev pub after_window : Window → ℕ
after_window w = after_word (after_word (after_word (shifts 64 w.first) w.second) w.third) w.fourth

-- the register after a list of words
unfoldable pub after_words : ℕ → List ℕ → ℕ
after_words register [] = register
after_words register (x ∷ words) = after_words (after_word register x) words

-- the first 32 of these words, a wide window, stand for the first n bytes
abbrev pub StandFor : ℕ → List ℕ → ℕ → List ℕ → Type 0
StandFor crc bytes n words = after_words 0 (take 32 words) ≡ crc_from crc (take n bytes)

-- sum is the running checksum crc after the first n of these bytes
pub record SumOfFirst (crc : ℕ) (bytes : List ℕ) (n sum : ℕ) : Type 0 where
  pub within : n ≤ length bytes
  pub right : sum ≡ crc_from crc (take n bytes)
