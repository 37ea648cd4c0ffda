-- A lent buffer after some bytes, or the pixels of L3, were written into it from a place.
-- Assumes nothing.
use Rattle.std.specs.Prelude.{◌≡◌, Bool, cond, List, ◌++◌, ℕ, ◌+◌, leb, length, take, drop}
use Rattle.laws.specs.Reply.{Reply, refused, refused_with, given}

-- Document 01: "written from a given place in the caller's buffer; bytes before and after it stay."
unfoldable pub written : List ℕ → ℕ → List ℕ → List ℕ
written buffer place bytes = take place buffer ++ bytes ++ drop (place + length bytes) buffer

-- so many elements from the place on are inside a buffer of that size
abbrev pub has_room : ℕ → ℕ → ℕ → Bool
has_room size place needed = leb (place + needed) size

-- the bytes, if they have room in a buffer of that size; otherwise 8: "fewer bytes free from the place than the packet
-- needs, or the place is beyond the buffer"; for pixels, L3: "8 where the slice is too short"
unfoldable pub if_room : ℕ → ℕ → List ℕ → Reply (List ℕ)
if_room size place bytes = cond (has_room size place (length bytes)) (given bytes) (refused 8)

-- Demand 1: "A refusal [...] writes no byte of a lent buffer"
abbrev pub after_reply : List ℕ → ℕ → Reply (List ℕ) → List ℕ
after_reply buffer place (refused_with number detail) = buffer
after_reply buffer place (given bytes) = written buffer place bytes

-- the answer to the caller: how many bytes or pixels, or which refusal
abbrev pub count_of : Reply (List ℕ) → Reply ℕ
count_of (refused_with number detail) = refused_with number detail
count_of (given bytes) = given (length bytes)

-- the answer to the caller of a writer, and the lent buffer after it, both as the reply says
pub record Writes (before : List ℕ) (place : ℕ) (reply : Reply (List ℕ)) (count : Reply ℕ) (after : List ℕ)
    : Type 0 where
  pub answer : count ≡ count_of reply
  pub buffer : after ≡ after_reply before place reply
