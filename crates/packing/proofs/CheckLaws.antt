-- Laws of the test of a line's pixels: every pixel is below a power of two exactly where the bits set in any of them are.
-- Assumes nothing.
use mathlib.Core.Path.{◌≡◌, refl, sym, ap, ◌∙◌}
use mathlib.Core.Bool.{Bool, true, false, cond, ◌&&◌}
use mathlib.Core.List.{List, [], ◌∷◌}
use Prim.Native.Nat.{ℕ, zero, suc, ◌+◌, ◌^◌, ◌≤◌, ◌<◌, ◌%◌}
use native.Mathlib.Omega.{arith}
use borrow.Author.Tests.{lt-ltb, le-ltb, le-leb, lt-leb, eq-eqb, ltb-true, ltb-false, leb-true, eqb-true}
use lib.Bits.{bit_or, or_lt, or_add_and, and_le_l, and_le_r, or_zero_r, or_zero_l}
use lib.Dec.{ltb, leb, eqb}
use lib.ListN.{length}
use lib.Pow.{pow_pos}
use Rattle.laws.proofs.Absurd.{zero_not_one}
use Rattle.laws.proofs.Bitwise.{or_assoc}
use Rattle.laws.proofs.Bools.{both}
use Rattle.laws.specs.Reply.{Reply, given}
use Rattle.laws.specs.Buffers.{if_room}
use Rattle.laws.specs.Elements.{AllBelow}
use Rattle.formats.specs.declared.Format.{Format}
use Rattle.formats.specs.declared.Format.TheVariants.{Raw10, Raw12}
use Rattle.std.specs.Prelude.{Result, Ok, Err}
use Rattle.std.specs.List.{fold}
use Rattle.packing.specs.declared.check.PixelRefusal.{PixelRefusal}
use Rattle.packing.specs.declared.check.PixelRefusal.TheVariants.{WidthNotAllowed, PixelTooLarge}
use Rattle.packing.specs.Raw.{group_pixels, low_bits, pixel_limit, pixel_fits, all_fit, width_allowed, payload_of}
use Rattle.packing.specs.Packing.{if_pixels, check_of, after_check, pack_reply}
use Rattle.packing.specs.Checking.{or_all}
use Rattle.laws.proofs.Replies.{had_room}

-- an or is below a power of two exactly where both its parts are
or_below : (k a b : ℕ) → ltb (bit_or a b) (2 ^ k) ≡ (ltb a (2 ^ k) && ltb b (2 ^ k))
or_below k a b = go (ltb a (2 ^ k)) refl (ltb b (2 ^ k)) refl
  where
    least : (a ≤ bit_or a b) × (b ≤ bit_or a b)
    least = let s = or_add_and a b in let l = and_le_l a b in let r = and_le_r a b in (omega arith, omega arith)

    go : (x : Bool) → ltb a (2 ^ k) ≡ x → (y : Bool) → ltb b (2 ^ k) ≡ y → ltb (bit_or a b) (2 ^ k) ≡ (x && y)
    go true p true q = lt-ltb (bit_or a b) (2 ^ k) (or_lt k a b (ltb-true a (2 ^ k) p) (ltb-true b (2 ^ k) q))
    go true p false q = le-ltb (bit_or a b) (2 ^ k) (let h = ltb-false b (2 ^ k) q in let l = least.1 in omega arith)
    go false p y q = le-ltb (bit_or a b) (2 ^ k) (let h = ltb-false a (2 ^ k) p in let l = least.0 in omega arith)

-- the limit of a pixel is a power of two, and so positive
limit_power : (format : Format) → pixel_limit format ≡ 2 ^ (8 + low_bits format)
limit_power Raw10 = refl
limit_power Raw12 = refl

pub limit_positive : (format : Format) → 0 < pixel_limit format
limit_positive format = rw (limit_power format) (pow_pos (8 + low_bits format))

pub all_below_lem : (format : Format) (pixels : List ℕ) → ltb (or_all pixels) (pixel_limit format) ≡ all_fit format pixels
unfolding or_all all_fit
all_below_lem format [] = lt-ltb 0 (pixel_limit format) (limit_positive format)
all_below_lem format (pixel ∷ pixels) =
    rw (limit_power format) (or_below (8 + low_bits format) pixel (or_all pixels))
    ∙ ap (λ (b : Bool). pixel_fits format pixel && b) (all_below_lem format pixels)

-- the test of all pixels, as what holds of each
pub fit_below : (format : Format) (pixels : List ℕ) → all_fit format pixels ≡ true → AllBelow (pixel_limit format) pixels
unfolding all_fit
fit_below format [] e i = limit_positive format
fit_below format (pixel ∷ pixels) e zero = ltb-true pixel (pixel_limit format) (both (ltb pixel (pixel_limit format)) (all_fit format pixels) e).0
fit_below format (pixel ∷ pixels) e (suc i) = fit_below format pixels (both (ltb pixel (pixel_limit format)) (all_fit format pixels) e).1 i

pub below_fit : (format : Format) (pixels : List ℕ) → AllBelow (pixel_limit format) pixels → all_fit format pixels ≡ true
unfolding all_fit
below_fit format [] below = refl
below_fit format (pixel ∷ pixels) below = rw (lt-ltb pixel (pixel_limit format) (below 0)) (below_fit format pixels (λ i. below (suc i)))

-- the bits that are set in any of the pixels, gathered from the first on
or_from : (pixels : List ℕ) (all : ℕ) → fold bit_or all pixels ≡ bit_or all (or_all pixels)
unfolding or_all
or_from [] all = sym (or_zero_r all)
or_from (pixel ∷ pixels) all = or_from pixels (bit_or all pixel) ∙ or_assoc all pixel (or_all pixels)

pub or_folded : (pixels : List ℕ) → fold bit_or 0 pixels ≡ or_all pixels
or_folded pixels = or_from pixels 0 ∙ or_zero_l (or_all pixels)

-- the test by its cases
module _ (format : Format) (width : ℕ) where
  pub width_none : width < 1 → width_allowed format width ≡ false
  unfolding width_allowed
  width_none h = rw (lt-leb 1 width h)

  pub width_over : 4096 < width → width_allowed format width ≡ false
  unfolding width_allowed
  width_over h = let l : 1 ≤ width = omega arith in rw (le-leb 1 width l, lt-leb width 4096 h)

  pub width_inside : 1 ≤ width → width ≤ 4096 → width_allowed format width ≡ eqb (width % group_pixels format) 0
  unfolding width_allowed
  width_inside l h = rw (le-leb 1 width l, le-leb width 4096 h)

  -- an allowed width, by what it is
  pub width_tells : width_allowed format width ≡ true → (1 ≤ width) × (width ≤ 4096) × (width % group_pixels format ≡ 0)
  unfolding width_allowed
  width_tells e =
      let inside = both (leb 1 width && leb width 4096) (eqb (width % group_pixels format) 0) e in
      let ends = both (leb 1 width) (leb width 4096) inside.0 in
      (leb-true 1 width ends.0, leb-true width 4096 ends.1, eqb-true (width % group_pixels format) 0 inside.1)

  pub width_so : 1 ≤ width → width ≤ 4096 → width % group_pixels format ≡ 0 → width_allowed format width ≡ true
  unfolding width_allowed
  width_so l h m = rw (le-leb 1 width l, le-leb width 4096 h, eq-eqb (width % group_pixels format) 0 m)

  pub allowed_small : width_allowed format width ≡ true → width ≤ 4096
  allowed_small e = (width_tells e).1

module _ (format : Format) (pixels : List ℕ) where
  -- what the test finds, by its two questions
  pub check_by : {width fit : Bool} → width_allowed format (length pixels) ≡ width → all_fit format pixels ≡ fit
      → check_of format pixels ≡ cond width (cond fit (Ok tt) (Err PixelTooLarge)) (Err WidthNotAllowed)
  unfolding check_of
  check_by e f = rw (e, f)

  -- the answer after the test
  pub checked : {A : Type 0} (next : Reply A) {check : Result Unit PixelRefusal} → check_of format pixels ≡ check → if_pixels format pixels next ≡ after_check check next
  checked next e = ap (λ (check : Result Unit PixelRefusal). after_check check next) e

  -- what is not refused has passed the test
  pub passed : {A : Type 0} (next : Reply A) {a : A} → if_pixels format pixels next ≡ given a
      → (width_allowed format (length pixels) ≡ true) × (all_fit format pixels ≡ true) × (next ≡ given a)
  unfolding check_of
  passed next {a} e = go (width_allowed format (length pixels)) (all_fit format pixels) e
    where
      go : (width fit : Bool) → after_check (cond width (cond fit (Ok tt) (Err PixelTooLarge)) (Err WidthNotAllowed)) next ≡ given a
          → (width ≡ true) × (fit ≡ true) × (next ≡ given a)
      go true true q = (refl, refl, q)
      go true false q = zero_not_one (cc)
      go false fit q = zero_not_one (cc)

  -- where the pixels are good, the width is
  pub good_width : check_of format pixels ≡ Ok tt → width_allowed format (length pixels) ≡ true
  good_width e = (passed {A = Unit} (given tt) (checked (given tt) e)).0

module _ (format : Format) (pixels : List ℕ) (size place : ℕ) where
  -- a pixel line that is packed, and one whose pixels are good
  pub pack_given : {payload : List ℕ} → pack_reply format pixels size place ≡ given payload
      → (width_allowed format (length pixels) ≡ true) × (all_fit format pixels ≡ true) × (payload_of format pixels ≡ payload)
  unfolding pack_reply
  pack_given e =
      let by = passed format pixels (if_room size place (payload_of format pixels)) e in
      (by.0, by.1, (had_room size place (payload_of format pixels) by.2).1)

  pub pack_good : width_allowed format (length pixels) ≡ true → all_fit format pixels ≡ true
      → pack_reply format pixels size place ≡ if_room size place (payload_of format pixels)
  unfolding pack_reply
  pack_good width fit = checked format pixels (if_room size place (payload_of format pixels)) (check_by format pixels width fit)
