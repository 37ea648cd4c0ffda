-- Laws of packed pixels, for both formats by the laws of groups: a payload's length, and the groups that have room.
-- Assumes nothing.
use mathlib.Core.Path.{◌≡◌, refl, ap, ◌∙◌}
use mathlib.Core.List.{List, [], ◌∷◌, ◌++◌, map}
use Prim.Native.Nat.{ℕ, ◌+◌, ◌*◌, ◌-◌, ◌/◌, ◌≤◌}
use native.Mathlib.Nat.{div-mul-le_self}
use native.Mathlib.Omega.{arith}
use Rattle.std.proofs.Math.Nat.{min-le_left, min-le_right, min-eq_left}
use lib.ListN.{length, length-append, length-map}
use Rattle.laws.specs.Buffers.{written}
use Rattle.laws.specs.Groups.{groups}
use Rattle.laws.proofs.Groups.{length-groups}
use Rattle.formats.specs.declared.Format.{Format}
use Rattle.formats.specs.declared.Format.TheVariants.{Raw10, Raw12}
use Rattle.packing.specs.Raw.{group_pixels, group_bytes, upper_byte, low_byte, pack_group, pack_groups, payload_of}
use Rattle.packing.specs.Lengths.{payload_length, groups_in_room}

-- a group has a byte for each pixel, and one more
pub byte_more : (format : Format) → group_pixels format + 1 ≡ group_bytes format
byte_more Raw10 = refl
byte_more Raw12 = refl

-- the bytes of a group, and the groups of a payload
pub group_is : (format : Format) (pixels : List ℕ) → pack_group format pixels ≡ map (upper_byte format) pixels ++ (low_byte format pixels ∷ [])
unfolding pack_group
group_is format pixels = refl

pub payload_is : (format : Format) (pixels : List ℕ) → payload_of format pixels ≡ pack_groups format (length pixels / group_pixels format) pixels
unfolding payload_of
payload_is format pixels = refl

pub length_group : (format : Format) (pixels : List ℕ) → length pixels ≡ group_pixels format → length (pack_group format pixels) ≡ group_bytes format
unfolding pack_group
length_group format pixels h =
    length-append (map (upper_byte format) pixels) (low_byte format pixels ∷ [])
    ∙ ap (λ (n : ℕ). n + 1) (length-map pixels (upper_byte format) ∙ h)
    ∙ byte_more format

module _ (format : Format) where
  length-packed : (n : ℕ) (pixels : List ℕ) → n * group_pixels format ≤ length pixels → length (pack_groups format n pixels) ≡ n * group_bytes format
  length-packed = length-groups (group_pixels format) (group_bytes format) (pack_group format) (length_group format)

  -- all groups
  pub length_payload : (pixels : List ℕ) → length (payload_of format pixels) ≡ payload_length format (length pixels)
  unfolding payload_of
  length_payload pixels = length-packed (length pixels / group_pixels format) pixels (div-mul-le_self (length pixels) (group_pixels format))

-- the longest payload
pub payload_small : (format : Format) (width : ℕ) → width ≤ 4096 → payload_length format width ≤ 6144
payload_small Raw10 width h = omega arith
payload_small Raw12 width h = omega arith

-- The groups that have room: the pixels have so many, and so many have room.
pub groups_whole : (format : Format) (width room : ℕ)
    → (groups_in_room format width room * group_pixels format ≤ width) × (groups_in_room format width room * group_bytes format ≤ room)
groups_whole Raw10 width room = let w = min-le_left (width / 4) (room / 5) in let r = min-le_right (width / 4) (room / 5) in (omega arith, omega arith)
groups_whole Raw12 width room = let w = min-le_left (width / 2) (room / 3) in let r = min-le_right (width / 2) (room / 3) in (omega arith, omega arith)

-- without room there is none
no_group : (format : Format) (width room : ℕ) → room ≡ 0 → groups_in_room format width room ≡ 0
no_group Raw10 width room e = let h = groups_whole Raw10 width room in omega arith
no_group Raw12 width room e = let h = groups_whole Raw12 width room in omega arith

-- where the payload has room, all groups have
groups_fit : (format : Format) (width room : ℕ) → payload_length format width ≤ room → width / group_pixels format ≤ room / group_bytes format
groups_fit Raw10 width room h = omega arith
groups_fit Raw12 width room h = omega arith

module _ (format : Format) (pixels : List ℕ) (room : ℕ) where
  pub packed_fits : length (pack_groups format (groups_in_room format (length pixels) room) pixels) ≤ room
  packed_fits =
      let whole = groups_whole format (length pixels) room in
      let l = length-packed format (groups_in_room format (length pixels) room) pixels whole.0 in
      omega arith

  pub none_packed : room ≡ 0 → pack_groups format (groups_in_room format (length pixels) room) pixels ≡ []
  unfolding groups
  none_packed e = ap (λ (n : ℕ). pack_groups format n pixels) (no_group format (length pixels) room e)

  -- what is packed is the payload
  whole_payload : payload_length format (length pixels) ≤ room
      → pack_groups format (groups_in_room format (length pixels) room) pixels ≡ payload_of format pixels
  unfolding payload_of
  whole_payload h = rw (min-eq_left (groups_fit format (length pixels) room h))

-- the same in a buffer
pub payload_packed : (format : Format) (pixels d : List ℕ) (place : ℕ) {after : List ℕ} → payload_length format (length pixels) ≤ length d - place
    → after ≡ written d place (pack_groups format (groups_in_room format (length pixels) (length d - place)) pixels) → after ≡ written d place (payload_of format pixels)
payload_packed format pixels d place h e = rw (whole_payload format pixels (length d - place) h) at e
