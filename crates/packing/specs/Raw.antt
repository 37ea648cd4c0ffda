-- RAW10 and RAW12: how the pixels of a line stand in the bytes of a payload (document 01, "Frames and packets").
-- Assumes nothing.
use Rattle.std.specs.Prelude.{Bool, true, ◌&&◌, List, [], ◌∷◌, ◌++◌, map, ℕ, ◌+◌, ◌*◌, ◌/◌, ◌%◌, ◌^◌, leb, ltb, eqb}
use Rattle.std.specs.Prelude.{length}
use Rattle.laws.specs.Groups.{groups}
use Rattle.formats.specs.declared.Format.{Format}
use Rattle.formats.specs.declared.Format.TheVariants.{Raw10, Raw12}

-- "RAW10: four pixels in five bytes [...] RAW12: two pixels in three bytes": a group of pixels, and its bytes
abbrev pub group_pixels : Format → ℕ
group_pixels Raw10 = 4
group_pixels Raw12 = 2

abbrev pub group_bytes : Format → ℕ
group_bytes Raw10 = 5
group_bytes Raw12 = 3

-- "the low pairs", "the low four bits": what a pixel has below its upper eight bits
abbrev pub low_bits : Format → ℕ
low_bits Raw10 = 2
low_bits Raw12 = 4

-- "the upper eight bits of each" (the % 256 changes nothing for a pixel that fits)
abbrev pub upper_byte : Format → ℕ → ℕ
upper_byte format pixel = pixel / 2 ^ low_bits format % 256

-- "then a byte of the low pairs, first pixel in bits 1 and 0"; "then the low four bits, first pixel in the low half"
abbrev pub low_byte : Format → List ℕ → ℕ
low_byte format [] = 0
low_byte format (pixel ∷ pixels) = pixel % 2 ^ low_bits format + 2 ^ low_bits format * low_byte format pixels

unfoldable pub pack_group : Format → List ℕ → List ℕ
pack_group format pixels = map (upper_byte format) pixels ++ (low_byte format pixels ∷ [])

-- the first n groups, one after the other
abbrev pub pack_groups : Format → ℕ → List ℕ → List ℕ
pack_groups format n pixels = groups (group_pixels format) (pack_group format) n pixels

-- the payload of a pixel line: all its groups
unfoldable pub payload_of : Format → List ℕ → List ℕ
payload_of format pixels = pack_groups format (length pixels / group_pixels format) pixels

-- "Width: 1 to 4,096 pixels, a multiple of 4 (RAW10) or 2 (RAW12)."
unfoldable pub width_allowed : Format → ℕ → Bool
width_allowed format width = leb 1 width && leb width 4096 && eqb (width % group_pixels format) 0

-- a pixel fits the format: it is below 2 ^ 10 or 2 ^ 12
abbrev pub pixel_limit : Format → ℕ
pixel_limit Raw10 = 2 ^ 10
pixel_limit Raw12 = 2 ^ 12

abbrev pub pixel_fits : Format → ℕ → Bool
pixel_fits format pixel = ltb pixel (pixel_limit format)

unfoldable pub all_fit : Format → List ℕ → Bool
all_fit format [] = true
all_fit format (pixel ∷ pixels) = pixel_fits format pixel && all_fit format pixels
