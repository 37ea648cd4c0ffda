-- Packing and unpacking undo each other: L3's laws, which stand beside the contracts of the packer and of the unpacker.
-- Assumes nothing.
use Rattle.std.specs.Prelude.{◌≡◌, true, List, ℕ, length}
use Rattle.laws.specs.Reply.{given}
use Rattle.laws.specs.Buffers.{if_room}
use Rattle.laws.specs.Elements.{AreBytes}
use Rattle.formats.specs.declared.Format.{Format}
use Rattle.formats.specs.Formats.{format_of}
use Rattle.packing.specs.Raw.{group_pixels, group_bytes, pack_group, all_fit}
use Rattle.packing.specs.Packing.{pack_reply}
use Rattle.unpacking.specs.Pixels.{unpack_group}
use Rattle.unpacking.specs.Unpacking.{unpack_reply}

-- "One statement over the group of bytes serves both formats."
abbrev pub GroupsUndone : Type 0
GroupsUndone =
    (format : Format)
    → ((pixels : List ℕ) → length pixels ≡ group_pixels format → all_fit format pixels ≡ true
    → unpack_group format (pack_group format pixels) ≡ pixels)
    × ((bytes : List ℕ) → length bytes ≡ group_bytes format → AreBytes bytes
    → pack_group format (unpack_group format bytes) ≡ bytes)

-- "Unpacking what the twin packed gives the pixels": of every pixel line that the packer accepts, into every slice
-- that has room for them.
abbrev pub PackedUnpacks : Type 0
PackedUnpacks =
    (bits : ℕ) (format : Format) (pixels payload : List ℕ) (room place size : ℕ) → format_of bits ≡ given format
    → pack_reply format pixels room place ≡ given payload
    → unpack_reply bits payload size ≡ if_room size 0 pixels

-- "and packing what was unpacked gives the payload": of every payload that the unpacker accepts, into every buffer
-- that has room for it.
abbrev pub UnpackedPacks : Type 0
UnpackedPacks =
    (bits : ℕ) (format : Format) (payload pixels : List ℕ) (size room place : ℕ) → format_of bits ≡ given format
    → AreBytes payload
    → unpack_reply bits payload size ≡ given pixels
    → pack_reply format pixels room place ≡ if_room room place payload
