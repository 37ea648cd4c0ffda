-- What the packer of a pixel line answers, and when it refuses (document 01, "Refusal numbers").
-- Assumes nothing.
use Rattle.std.specs.Prelude.{cond, List, ℕ, length, Result, Ok, Err}
use Rattle.laws.specs.Reply.{Reply, refused}
use Rattle.laws.specs.Buffers.{if_room}
use Rattle.formats.specs.declared.Format.{Format}
use Rattle.packing.specs.declared.PackRefusal.{PackRefusal}
use Rattle.packing.specs.declared.PackRefusal.TheVariants.{Pixels, NoRoom}
use Rattle.packing.specs.declared.check.PixelRefusal.{PixelRefusal}
use Rattle.packing.specs.declared.check.PixelRefusal.TheVariants.{WidthNotAllowed, PixelTooLarge}
use Rattle.packing.specs.Raw.{payload_of, width_allowed, all_fit}

-- what the test of a pixel line finds: its width first, then its pixels
unfoldable pub check_of : Format → List ℕ → Result Unit PixelRefusal
check_of format pixels =
    cond (width_allowed format (length pixels))
    (cond (all_fit format pixels) (Ok tt) (Err PixelTooLarge)) (Err WidthNotAllowed)

-- 5: "width not allowed for the format"; 6: "a pixel does not fit the format"
abbrev pub pixel_refusal_number : PixelRefusal → ℕ
pixel_refusal_number WidthNotAllowed = 5
pixel_refusal_number PixelTooLarge = 6

-- what follows, if the pixels are good
abbrev pub after_check : {A : Type 0} → Result Unit PixelRefusal → Reply A → Reply A
after_check (Err refusal) next = refused (pixel_refusal_number refusal)
after_check (Ok good) next = next

abbrev pub if_pixels : {A : Type 0} → Format → List ℕ → Reply A → Reply A
if_pixels format pixels next = after_check (check_of format pixels) next

-- for a writer that tests the width alone
abbrev pub if_width : {A : Type 0} → Format → List ℕ → Reply A → Reply A
if_width format pixels next = cond (width_allowed format (length pixels)) next (refused 5)

-- a payload alone, as a packet would be (the papers speak of packets): 5, 6, 8
unfoldable pub pack_reply : Format → List ℕ → ℕ → ℕ → Reply (List ℕ)
pack_reply format pixels size place = if_pixels format pixels (if_room size place (payload_of format pixels))

-- the paper's numbers
abbrev pub pack_refusal_number : PackRefusal → ℕ
pack_refusal_number (Pixels refusal) = pixel_refusal_number refusal
pack_refusal_number NoRoom = 8
