-- RAW10 and RAW12 read back: which pixels stand in the bytes of a payload (document 01, "Frames and packets"; L3).
-- Assumes nothing.
use Rattle.std.specs.Prelude.{List, [], ◌∷◌, ℕ, ◌+◌, ◌*◌, ◌/◌, ◌%◌, ◌^◌, length, take, get_or}
use Rattle.laws.specs.Groups.{groups}
use Rattle.formats.specs.declared.Format.{Format}
use Rattle.packing.specs.Raw.{group_pixels, group_bytes, low_bits}

-- Pixels from their upper bytes and the byte of their low bits, of which the first pixel has the lowest
-- ("first pixel in bits 1 and 0", "first pixel in the low half").
abbrev pub joined_pixels : Format → List ℕ → ℕ → List ℕ
joined_pixels format [] low = []
joined_pixels format (upper ∷ uppers) low =
    (2 ^ low_bits format * upper + low % 2 ^ low_bits format) ∷ joined_pixels format uppers (low / 2 ^ low_bits format)

-- the pixels of a group of bytes: "the upper eight bits of each, then a byte of the low pairs",
-- "then the low four bits"
unfoldable pub unpack_group : Format → List ℕ → List ℕ
unpack_group format bytes = joined_pixels format (take (group_pixels format) bytes) (get_or bytes (group_pixels format) 0)

-- the first n groups, one after the other
abbrev pub unpack_groups : Format → ℕ → List ℕ → List ℕ
unpack_groups format n bytes = groups (group_bytes format) (unpack_group format) n bytes

-- the pixels of a payload: all its groups
unfoldable pub pixels_of : Format → List ℕ → List ℕ
pixels_of format payload = unpack_groups format (length payload / group_bytes format) payload
