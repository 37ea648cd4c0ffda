-- What the unpacker of a payload answers, and when it refuses (L3).
-- Assumes nothing.
use Rattle.std.specs.Prelude.{Bool, cond, ◌&&◌, List, ℕ, ◌*◌, ◌/◌, ◌%◌, leb, eqb, length}
use Rattle.laws.specs.Reply.{Reply, refused, and_then}
use Rattle.laws.specs.Buffers.{if_room}
use Rattle.formats.specs.declared.Format.{Format}
use Rattle.formats.specs.Formats.{format_of}
use Rattle.packing.specs.Raw.{group_pixels, group_bytes}
use Rattle.unpacking.specs.declared.UnpackRefusal.{UnpackRefusal}
use Rattle.unpacking.specs.declared.UnpackRefusal.TheVariants.{UnknownFormat, PayloadNotAllowed, NoRoom}
use Rattle.unpacking.specs.Pixels.{pixels_of}

-- none of L3's "payload empty or not a multiple of 5 or 3 bytes or wider than the limit", which is document 01's
-- 4,096 pixels
unfoldable pub payload_allowed : Format → ℕ → Bool
payload_allowed format count =
    leb 1 count && eqb (count % group_bytes format) 0 && leb (count / group_bytes format * group_pixels format) 4096

-- the pixels of a payload, "in the order 3, 17, 8"; "8 where the slice is too short"
unfoldable pub unpack_reply : ℕ → List ℕ → ℕ → Reply (List ℕ)
unpack_reply bits payload size =
    and_then (format_of bits) (λ format.
    cond (payload_allowed format (length payload)) (if_room size 0 (pixels_of format payload)) (refused 17))

-- the papers' numbers
abbrev pub unpack_refusal_number : UnpackRefusal → ℕ
unpack_refusal_number UnknownFormat = 3
unpack_refusal_number PayloadNotAllowed = 17
unpack_refusal_number NoRoom = 8
