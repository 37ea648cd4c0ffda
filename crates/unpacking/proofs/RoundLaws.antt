-- Packing and unpacking undo each other, for every pixel line and every payload that is not refused.
-- Assumes nothing.
use mathlib.Core.Path.{◌≡◌, refl, sym, ap, ◌∙◌}
use mathlib.Core.Bool.{true, ◌&&◌}
use mathlib.Core.List.{List}
use Prim.Native.Nat.{ℕ, ◌*◌, ◌/◌, ◌%◌, ◌≤◌, ◌<◌}
use native.Mathlib.Nat.{div-add-mod', mul-div_cancel}
use native.Mathlib.Omega.{arith}
use borrow.Author.Tests.{le-leb, leb-true, eq-eqb, eqb-true}
use lib.Dec.{leb, eqb}
use lib.ListN.{length}
use Rattle.laws.specs.Reply.{given}
use Rattle.laws.specs.Buffers.{if_room}
use Rattle.laws.specs.Elements.{AllBelow, AreBytes}
use Rattle.laws.specs.Groups.{groups}
use Rattle.laws.proofs.Bools.{both}
use Rattle.laws.proofs.Groups.{length-groups, groups_undone}
use Rattle.formats.specs.declared.Format.{Format}
use Rattle.formats.specs.declared.Format.TheVariants.{Raw10, Raw12}
use Rattle.formats.specs.Formats.{format_of}
use Rattle.packing.specs.Raw.{group_pixels, group_bytes, pack_group, payload_of, width_allowed, pixel_limit, all_fit}
use Rattle.packing.specs.Packing.{pack_reply}
use Rattle.packing.proofs.RawLaws.{payload_is, length_payload, length_group as length-packed-group}
use Rattle.packing.proofs.CheckLaws.{width_tells, width_so, fit_below, below_fit, pack_given, pack_good}
use Rattle.laws.proofs.Replies.{was_true, had_room}
use Rattle.unpacking.specs.Pixels.{unpack_group, pixels_of}
use Rattle.unpacking.specs.Unpacking.{payload_allowed, unpack_reply}
use Rattle.unpacking.specs.RoundTrip.{PackedUnpacks, UnpackedPacks}
use Rattle.unpacking.proofs.PixelLaws.{length_group, length_pixels, packed_group, unpacked_group, pixels_below}
use Rattle.unpacking.proofs.AnswerLaws.{unpack_by}

-- an allowed payload, by what it is
module _ (format : Format) (count : ℕ) where
  pub payload_tells : payload_allowed format count ≡ true → (1 ≤ count) × (count % group_bytes format ≡ 0) × (count / group_bytes format * group_pixels format ≤ 4096)
  unfolding payload_allowed
  payload_tells e =
      let width = count / group_bytes format * group_pixels format in
      let inside = both (leb 1 count && eqb (count % group_bytes format) 0) (leb width 4096) e in
      let ends = both (leb 1 count) (eqb (count % group_bytes format) 0) inside.0 in
      (leb-true 1 count ends.0, eqb-true (count % group_bytes format) 0 ends.1, leb-true width 4096 inside.1)

  payload_so : 1 ≤ count → count % group_bytes format ≡ 0 → count / group_bytes format * group_pixels format ≤ 4096 → payload_allowed format count ≡ true
  unfolding payload_allowed
  payload_so l m h = rw (le-leb 1 count l, eq-eqb (count % group_bytes format) 0 m, le-leb (count / group_bytes format * group_pixels format) 4096 h)

-- A pixel line of an allowed width has an allowed payload, and an allowed payload has a pixel line of an allowed width.
packed_allowed : (format : Format) (width : ℕ) → (1 ≤ width) × (width ≤ 4096) × (width % group_pixels format ≡ 0)
    → payload_allowed format (width / group_pixels format * group_bytes format) ≡ true
packed_allowed Raw10 width h = payload_so Raw10 (width / 4 * 5) (omega arith) (omega arith) (omega arith)
packed_allowed Raw12 width h = payload_so Raw12 (width / 2 * 3) (omega arith) (omega arith) (omega arith)

unpacked_allowed : (format : Format) (count : ℕ) → (1 ≤ count) × (count % group_bytes format ≡ 0) × (count / group_bytes format * group_pixels format ≤ 4096)
    → width_allowed format (count / group_bytes format * group_pixels format) ≡ true
unpacked_allowed Raw10 count h = width_so Raw10 (count / 5 * 4) (omega arith) (omega arith) (omega arith)
unpacked_allowed Raw12 count h = width_so Raw12 (count / 3 * 2) (omega arith) (omega arith) (omega arith)

-- A list of whole groups that is turned group by group, and back, is as it was, where each group is.
module _ (size out : ℕ) (f back : List ℕ → List ℕ) (turned : (g : List ℕ) → length g ≡ size → length (f g) ≡ out) (limit : ℕ)
    (undone : (g : List ℕ) → length g ≡ size → AllBelow limit g → back (f g) ≡ g) (some : 0 < out) where
  turned_back : (l : List ℕ) → length l % size ≡ 0 → AllBelow limit l
      → let all = groups size f (length l / size) l in groups out back (length all / out) all ≡ l
  turned_back l none below =
      let n = length l / size in
      let all = groups size f n l in
      let whole : length l ≡ n * size = omega (arith, div-add-mod' (length l) size) in
      let count : length all / out ≡ n = ap (λ (m : ℕ). m / out) (length-groups size out f turned n l (omega arith)) ∙ mul-div_cancel n some in
      ap (λ (m : ℕ). groups out back m all) count ∙ groups_undone size out f turned back limit undone n l whole below

some_pixels : (format : Format) → (0 < group_pixels format) × (0 < group_bytes format)
some_pixels Raw10 = (omega arith, omega arith)
some_pixels Raw12 = (omega arith, omega arith)

-- the pixels of a pixel line's payload are the line
module _ (format : Format) (pixels : List ℕ) (width : width_allowed format (length pixels) ≡ true) where
  packed_payload : payload_allowed format (length (payload_of format pixels)) ≡ true
  packed_payload = rw (length_payload format pixels) (packed_allowed format (length pixels) (width_tells format (length pixels) width))

  unpacked_back : all_fit format pixels ≡ true → pixels_of format (payload_of format pixels) ≡ pixels
  unfolding pixels_of
  unpacked_back fit =
      rw (payload_is format pixels)
      (turned_back (group_pixels format) (group_bytes format) (pack_group format) (unpack_group format) (length-packed-group format) (pixel_limit format)
      (packed_group format) (some_pixels format).1 pixels (width_tells format (length pixels) width).2 (fit_below format pixels fit))

-- the payload of a payload's pixels is the payload
module _ (format : Format) (payload : List ℕ) (right : payload_allowed format (length payload) ≡ true) where
  unpacked_width : width_allowed format (length (pixels_of format payload)) ≡ true
  unpacked_width = rw (length_pixels format payload) (unpacked_allowed format (length payload) (payload_tells format (length payload) right))

  packed_back : AreBytes payload → payload_of format (pixels_of format payload) ≡ payload
  unfolding pixels_of
  packed_back small =
      payload_is format (pixels_of format payload)
      ∙ turned_back (group_bytes format) (group_pixels format) (unpack_group format) (pack_group format) (length_group format) 256 (unpacked_group format)
      (some_pixels format).0 payload (payload_tells format (length payload) right).1 small

-- the payload of a pixel line with good pixels is unpacked to them
pub payload_unpacks : (bits : ℕ) (format : Format) (pixels : List ℕ) (size : ℕ) → format_of bits ≡ given format
    → width_allowed format (length pixels) ≡ true → all_fit format pixels ≡ true → unpack_reply bits (payload_of format pixels) size ≡ if_room size 0 pixels
payload_unpacks bits format pixels size known width fit =
    unpack_by bits (payload_of format pixels) size format known (packed_payload format pixels width)
    ∙ ap (if_room size 0) (unpacked_back format pixels width fit)

pub packed_unpacks : PackedUnpacks
packed_unpacks bits format pixels payload room place size known e =
    let by = pack_given format pixels room place e in
    ap (λ (l : List ℕ). unpack_reply bits l size) (sym by.2) ∙ payload_unpacks bits format pixels size known by.0 by.1

pub unpacked_packs : UnpackedPacks
unpacked_packs bits format payload pixels size room place known small e =
    let found = pixels_of format payload in
    let by = was_true 17 (payload_allowed format (length payload)) (sym (unpack_by bits payload size format known refl) ∙ e) in
    ap (λ (l : List ℕ). pack_reply format l room place) (sym (had_room size 0 found by.1).1)
    ∙ pack_good format found room place (unpacked_width format payload by.0) (below_fit format found (pixels_below format payload small))
    ∙ ap (if_room room place) (packed_back format payload by.0 small)
