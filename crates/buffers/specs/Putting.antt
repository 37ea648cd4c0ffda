-- Bytes that are put into a lent buffer from a place on, as many as have room.
-- (Ours: for printed text, of which the papers give no refusal.)
-- Assumes nothing.
use Rattle.std.specs.Prelude.{◌≡◌, List, ℕ, ◌+◌, ◌-◌, length, take}
use Rattle.laws.specs.Buffers.{written}

-- the bytes that have room in a buffer from a place on
abbrev pub in_room : List ℕ → ℕ → List ℕ → List ℕ
in_room buffer place bytes = take (length buffer - place) bytes

-- They were put into the buffer `before` from the place `at` on, which is now `after`; the next free place is `next`.
pub record Puts (before : List ℕ) (at : ℕ) (bytes after : List ℕ) (next : ℕ) : Type 0 where
  pub buffer : after ≡ written before at (in_room before at bytes)
  pub place : next ≡ at + length (in_room before at bytes)
