-- Laws of unpacked pixels, for both formats by the laws of groups: how many there are, that they fit, and that packing and unpacking undo each other.
-- Assumes nothing.
use mathlib.Core.Path.{◌≡◌, refl, sym, ap, ap₂, ◌∙◌}
use mathlib.Core.List.{List, [], ◌∷◌, ◌++◌, map}
use Prim.Native.Nat.{ℕ, zero, suc, ◌+◌, ◌*◌, ◌/◌, ◌%◌, ◌^◌, ◌≤◌, ◌<◌}
use native.Mathlib.Nat.{div-mul-le_self, pow-zero, pow-suc}
use native.Mathlib.Omega.{arith}
use lib.ListN.{length, get_or, take, length-map}
use lib.Seq.{length-take-le, take-suc, take_all, take_at, get_or_at}
use Rattle.laws.specs.Elements.{AllBelow, AreBytes}
use Rattle.laws.proofs.Elements.{below_to}
use Rattle.laws.proofs.Groups.{length-groups, below_groups}
use Rattle.formats.specs.declared.Format.{Format}
use Rattle.formats.specs.declared.Format.TheVariants.{Raw10, Raw12}
use Rattle.packing.specs.Raw.{group_pixels, group_bytes, low_bits, upper_byte, low_byte, pack_group, pixel_limit}
use Rattle.packing.proofs.RawLaws.{byte_more, group_is}
use Rattle.packing.proofs.CheckLaws.{limit_positive, fit_below}
use Rattle.unpacking.specs.Pixels.{joined_pixels, unpack_group, unpack_groups, pixels_of}
use Rattle.unpacking.specs.RoundTrip.{GroupsUndone}

length-joined : (format : Format) (uppers : List ℕ) (low : ℕ) → length (joined_pixels format uppers low) ≡ length uppers
length-joined format [] low = refl
length-joined format (upper ∷ uppers) low = ap suc (length-joined format uppers (low / 2 ^ low_bits format))

module _ (format : Format) where
  pub length_group : (bytes : List ℕ) → length bytes ≡ group_bytes format → length (unpack_group format bytes) ≡ group_pixels format
  unfolding unpack_group
  length_group bytes h =
      let more = byte_more format in
      length-joined format (take (group_pixels format) bytes) (get_or bytes (group_pixels format) 0) ∙ length-take-le (group_pixels format) bytes (omega arith)

  length-unpacked : (n : ℕ) (bytes : List ℕ) → n * group_bytes format ≤ length bytes → length (unpack_groups format n bytes) ≡ n * group_pixels format
  length-unpacked = length-groups (group_bytes format) (group_pixels format) (unpack_group format) length_group

  -- all groups
  pub length_pixels : (payload : List ℕ) → length (pixels_of format payload) ≡ length payload / group_bytes format * group_pixels format
  unfolding pixels_of
  length_pixels payload = length-unpacked (length payload / group_bytes format) payload (div-mul-le_self (length payload) (group_bytes format))

-- A pixel from its two parts: its upper byte, and its low bits with those of the pixels after it above them.
pixel_back : (format : Format) (pixel others : ℕ) → pixel < pixel_limit format
    → 2 ^ low_bits format * upper_byte format pixel + (pixel % 2 ^ low_bits format + 2 ^ low_bits format * others) % 2 ^ low_bits format ≡ pixel
pixel_back Raw10 pixel others h = omega arith
pixel_back Raw12 pixel others h = omega arith

others_back : (format : Format) (pixel others : ℕ) → (pixel % 2 ^ low_bits format + 2 ^ low_bits format * others) / 2 ^ low_bits format ≡ others
others_back Raw10 pixel others = omega arith
others_back Raw12 pixel others = omega arith

joined_packed : (format : Format) (pixels : List ℕ) → AllBelow (pixel_limit format) pixels → joined_pixels format (map (upper_byte format) pixels) (low_byte format pixels) ≡ pixels
joined_packed format [] below = refl
joined_packed format (pixel ∷ pixels) below =
    let others = low_byte format pixels in
    ap₂ ◌∷◌ (pixel_back format pixel others (below 0))
    (ap (joined_pixels format (map (upper_byte format) pixels)) (others_back format pixel others) ∙ joined_packed format pixels (λ i. below (suc i)))

-- the two parts of a pixel that was joined
upper_back : (format : Format) (upper low : ℕ) → upper < 256 → upper_byte format (2 ^ low_bits format * upper + low % 2 ^ low_bits format) ≡ upper
upper_back Raw10 upper low h = omega arith
upper_back Raw12 upper low h = omega arith

low_back : (format : Format) (upper low : ℕ)
    → (2 ^ low_bits format * upper + low % 2 ^ low_bits format) % 2 ^ low_bits format + 2 ^ low_bits format * (low / 2 ^ low_bits format) ≡ low
low_back Raw10 upper low = omega arith
low_back Raw12 upper low = omega arith

uppers_joined : (format : Format) (uppers : List ℕ) (low : ℕ) → AreBytes uppers → map (upper_byte format) (joined_pixels format uppers low) ≡ uppers
uppers_joined format [] low bytes = refl
uppers_joined format (upper ∷ uppers) low bytes =
    ap₂ ◌∷◌ (upper_back format upper low (bytes 0)) (uppers_joined format uppers (low / 2 ^ low_bits format) (λ i. bytes (suc i)))

-- the low bits have room in their byte: each pixel takes its own
fewer : (format : Format) (n low : ℕ) → low < (2 ^ low_bits format) ^ suc n → low / 2 ^ low_bits format < (2 ^ low_bits format) ^ n
fewer Raw10 n low h = omega (arith, pow-suc 4 n)
fewer Raw12 n low h = omega (arith, pow-suc 16 n)

low_joined : (format : Format) (uppers : List ℕ) (low : ℕ) → low < (2 ^ low_bits format) ^ length uppers → low_byte format (joined_pixels format uppers low) ≡ low
low_joined format [] low h = omega (arith, pow-zero (2 ^ low_bits format))
low_joined format (upper ∷ uppers) low h =
    let m = 2 ^ low_bits format in
    ap (λ (others : ℕ). (m * upper + low % m) % m + m * others) (low_joined format uppers (low / m) (fewer format (length uppers) low h))
    ∙ low_back format upper low

whole_byte : (format : Format) → (2 ^ low_bits format) ^ group_pixels format ≡ 256
whole_byte Raw10 = refl
whole_byte Raw12 = refl

-- the bytes of a group: one for each pixel, and the last
group_split : (format : Format) (bytes : List ℕ) → length bytes ≡ group_bytes format
    → take (group_pixels format) bytes ++ (get_or bytes (group_pixels format) 0 ∷ []) ≡ bytes
group_split format bytes h =
    let more = byte_more format in
    sym (take-suc bytes (group_pixels format) 0 (omega arith)) ∙ take_all (suc (group_pixels format)) bytes (omega arith)

pub packed_group : (format : Format) (pixels : List ℕ) → length pixels ≡ group_pixels format → AllBelow (pixel_limit format) pixels
    → unpack_group format (pack_group format pixels) ≡ pixels
unfolding unpack_group
packed_group format pixels h below =
    let uppers = map (upper_byte format) pixels in
    let low = low_byte format pixels in
    let l : length uppers ≡ group_pixels format = length-map pixels (upper_byte format) ∙ h in
    rw (group_is format pixels) (ap₂ (joined_pixels format) (take_at uppers (low ∷ []) (group_pixels format) l) (get_or_at uppers low [] 0 (group_pixels format) l))
    ∙ joined_packed format pixels below

pub unpacked_group : (format : Format) (bytes : List ℕ) → length bytes ≡ group_bytes format → AreBytes bytes
    → pack_group format (unpack_group format bytes) ≡ bytes
unfolding unpack_group
unpacked_group format bytes h small =
    let more = byte_more format in
    let uppers = take (group_pixels format) bytes in
    let low = get_or bytes (group_pixels format) 0 in
    let l : length uppers ≡ group_pixels format = length-take-le (group_pixels format) bytes (omega arith) in
    let room : (2 ^ low_bits format) ^ length uppers ≡ 256 = ap (λ (n : ℕ). (2 ^ low_bits format) ^ n) l ∙ whole_byte format in
    group_is format (unpack_group format bytes)
    ∙ ap₂ (λ (us : List ℕ) (b : ℕ). us ++ (b ∷ [])) (uppers_joined format uppers low (below_to 256 (group_pixels format) bytes small))
    (low_joined format uppers low (rw room (small (group_pixels format))))
    ∙ group_split format bytes h

-- an unpacked pixel fits its format
pixel_small : (format : Format) (upper low : ℕ) → upper < 256 → 2 ^ low_bits format * upper + low % 2 ^ low_bits format < pixel_limit format
pixel_small Raw10 upper low h = omega arith
pixel_small Raw12 upper low h = omega arith

joined_below : (format : Format) (uppers : List ℕ) (low : ℕ) → AreBytes uppers → AllBelow (pixel_limit format) (joined_pixels format uppers low)
joined_below format [] low bytes i = limit_positive format
joined_below format (upper ∷ uppers) low bytes zero = pixel_small format upper low (bytes 0)
joined_below format (upper ∷ uppers) low bytes (suc i) = joined_below format uppers (low / 2 ^ low_bits format) (λ k. bytes (suc k)) i

pub pixels_below : (format : Format) (payload : List ℕ) → AreBytes payload → AllBelow (pixel_limit format) (pixels_of format payload)
unfolding pixels_of unpack_group
pixels_below format payload small =
    below_groups (group_bytes format) (unpack_group format) 256 (pixel_limit format) (limit_positive format)
    (λ g bytes. joined_below format (take (group_pixels format) g) (get_or g (group_pixels format) 0) (below_to 256 (group_pixels format) g bytes))
    (length payload / group_bytes format) payload small

-- each group is undone, in both directions
pub group_laws : GroupsUndone
group_laws format = (λ pixels h fit. packed_group format pixels h (fit_below format pixels fit), λ bytes h small. unpacked_group format bytes h small)
