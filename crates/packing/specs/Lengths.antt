-- How many bytes a payload has, and how many groups of a pixel line have room: for the functions that the packet
-- writer calls, which the papers do not name.
-- Assumes nothing.
use Rattle.std.specs.Prelude.{ℕ, ◌*◌, ◌/◌, min}
use Rattle.formats.specs.declared.Format.{Format}
use Rattle.packing.specs.Raw.{group_pixels, group_bytes}

-- how many bytes the whole groups of a pixel line of that width are packed into
abbrev pub payload_length : Format → ℕ → ℕ
payload_length format width = width / group_pixels format * group_bytes format

-- the whole groups of so many pixels, as many as have room in so many bytes
abbrev pub groups_in_room : Format → ℕ → ℕ → ℕ
groups_in_room format width room = min (width / group_pixels format) (room / group_bytes format)
