-- Shared writes inside the blocks.
-- Assumes nothing.
use Rattle.std.specs.Prelude.{◌≡◌, ℕ, ◌+◌, ◌%◌, ◌^◌, ◌<◌, Bool, true, false, ◌&&◌, List, [], ◌∷◌, ◌++◌, length, nat_lt}
use Rattle.origins.specs.declared.NumberedWrite.{NumberedWrite}
use Rattle.ordering.specs.declared.kinds.WriteKind.{WriteKind}
use Rattle.ordering.specs.declared.kinds.WriteKind.TheVariants.{NotFollowed, Selection}
use Rattle.ordering.specs.declared.kinds.WriteKind.TheVariants.{PortRegister, SharedRegister}
use Rattle.ordering.specs.declared.inside.Extent.{Extent}
use Rattle.ordering.specs.Kinds.{kind_of, kind, is_selection, is_shared, is_of_block, any_write}

-- `shared-in-block`: "a shared register other than 0x4C is written after the first selection, and a selection or a
-- per-port write follows". The write stands between those before it and those after it.
unfoldable pub shared_in_block : List NumberedWrite → NumberedWrite → List NumberedWrite → Bool
shared_in_block before w after = is_shared (kind w) && (any_write is_selection before && any_write is_of_block after)

-- How the code finds them: it counts the writes, and the counts have 64 bits.
abbrev pub extent_by : WriteKind → ℕ → Extent → Extent
extent_by NotFollowed count extent = record { count = count; started = extent.started; end = extent.end }
extent_by Selection count extent = record { count = count; started = true; end = count }
extent_by PortRegister count extent = record { count = count; started = extent.started; end = count }
extent_by SharedRegister count extent = record { count = count; started = extent.started; end = extent.end }

unfoldable pub extent_step : Extent → ℕ → Extent
extent_step extent offset = extent_by (kind_of offset) ((extent.count + 1) % 2 ^ 64) extent

unfoldable pub first_extent : Extent
first_extent = record { count = 0; started = false; end = 0 }

unfoldable pub extent_after : Extent → List NumberedWrite → Extent
extent_after extent [] = extent
extent_after extent (w ∷ ws) = extent_after (extent_step extent w.offset) ws

abbrev pub extent_of : List NumberedWrite → Extent
extent_of ws = extent_after first_extent ws

unfoldable pub shared_inside_now : Extent → Extent → ℕ → Bool
shared_inside_now before whole offset = is_shared (kind_of offset) && (before.started && nat_lt before.count whole.end)

-- the test of the code is the test of the sentence, for every write of a script
abbrev pub SharedInBlockExact : Type 0
SharedInBlockExact =
    (before : List NumberedWrite) (w : NumberedWrite) (after : List NumberedWrite)
    → length (before ++ (w ∷ after)) < 2 ^ 64
    → shared_inside_now (extent_of before) (extent_of (before ++ (w ∷ after))) w.offset ≡ shared_in_block before w after
