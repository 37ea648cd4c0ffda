-- What the unpacker answers, by the tests that the source makes.
-- Assumes nothing.
use mathlib.Core.Path.{◌≡◌}
use mathlib.Core.Bool.{Bool, false, cond, ◌&&◌, and-true}
use mathlib.Core.List.{List}
use Prim.Native.Nat.{ℕ, ◌*◌, ◌/◌, ◌%◌, ◌≤◌, ◌<◌}
use borrow.Author.Tests.{le-leb, lt-leb}
use lib.Dec.{leb, eqb}
use lib.ListN.{length}
use Rattle.laws.specs.Reply.{refused, given}
use Rattle.laws.specs.Buffers.{if_room}
use Rattle.laws.proofs.Bools.{never}
use Rattle.formats.specs.declared.Format.{Format}
use Rattle.formats.specs.Formats.{format_of}
use Rattle.packing.specs.Raw.{group_pixels, group_bytes}
use Rattle.unpacking.specs.Pixels.{pixels_of}
use Rattle.unpacking.specs.Unpacking.{payload_allowed, unpack_reply}

module _ (format : Format) (count : ℕ) where
  pub payload_none : count < 1 → payload_allowed format count ≡ false
  unfolding payload_allowed
  payload_none h = rw (lt-leb 1 count h)

  pub payload_over : 4096 < count / group_bytes format * group_pixels format → payload_allowed format count ≡ false
  unfolding payload_allowed
  payload_over h = rw (lt-leb (count / group_bytes format * group_pixels format) 4096 h) (never (leb 1 count && eqb (count % group_bytes format) 0))

  pub payload_inside : 1 ≤ count → count / group_bytes format * group_pixels format ≤ 4096 → payload_allowed format count ≡ eqb (count % group_bytes format) 0
  unfolding payload_allowed
  payload_inside l h = rw (le-leb 1 count l, le-leb (count / group_bytes format * group_pixels format) 4096 h) (and-true (eqb (count % group_bytes format) 0))

module _ (bits : ℕ) (payload : List ℕ) (size : ℕ) where
  pub unpack_unknown : format_of bits ≡ refused 3 → unpack_reply bits payload size ≡ refused 3
  unfolding unpack_reply
  unpack_unknown e = rw e

  pub unpack_by : (format : Format) {right : Bool} → format_of bits ≡ given format → payload_allowed format (length payload) ≡ right
      → unpack_reply bits payload size ≡ cond right (if_room size 0 (pixels_of format payload)) (refused 17)
  unfolding unpack_reply
  unpack_by format known e = rw (known, e)
