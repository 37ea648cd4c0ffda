-- A script whose blocks may be run in any order: what the decision means, and what follows from it by demand 3.
-- Assumes nothing.
use Rattle.std.specs.Prelude.{◌≡◌, true, List, [], ◌∷◌, ◌++◌}
use mathlib.Core.List.{Memᴰ, Permᴰ}
use Rattle.hub.specs.declared.Hub.{Hub}
use Rattle.hub.specs.Hubs.{ArrayLengths, hub_burst}
use Rattle.setup.specs.SetupBlocks.{Burst, Block, StartsWithSelection, SetupBlocks}
use Rattle.setup.specs.Demand3.{Alike}
use Rattle.origins.specs.declared.NumberedWrite.{NumberedWrite}
use Rattle.origins.specs.NumberedWrites.{unnumbered_writes}
use Rattle.origins.specs.Origins.{FileOfBytes}
use Rattle.ordering.specs.declared.kinds.WriteKind.TheVariants.{SharedRegister}
use Rattle.ordering.specs.Kinds.{kind, followed}
use Rattle.ordering.specs.Orders.{order_of}

-- a register write as a burst of one value, and writes as a block
abbrev pub burst_of : NumberedWrite → Burst
burst_of w = record { offset = w.offset; values = w.value ∷ [] }

abbrev pub block_of : List NumberedWrite → Block
block_of [] = []
block_of (w ∷ ws) = burst_of w ∷ block_of ws

abbrev pub blocks_of : List (List NumberedWrite) → List Block
blocks_of [] = []
blocks_of (ws ∷ rest) = block_of ws ∷ blocks_of rest

-- lists of writes, one after another
abbrev pub joined_blocks : List (List NumberedWrite) → List NumberedWrite
joined_blocks [] = []
joined_blocks (ws ∷ rest) = ws ++ joined_blocks rest

abbrev pub AllShared : List NumberedWrite → Type 0
AllShared [] = Unit
AllShared (w ∷ ws) = (kind w ≡ SharedRegister) × AllShared ws

-- of each list the writes that are followed
abbrev pub followed_each : List (List NumberedWrite) → List (List NumberedWrite)
followed_each [] = []
followed_each (ws ∷ rest) = followed ws ∷ followed_each rest

-- "Of the writes that the model follows: shared ones at the start, then a block from each write to 0x4C on, then shared
-- ones at the end", and "these blocks are setup blocks with no port ticked twice (the premise of demand 3,
-- crates/setup)". The three parts are the whole script: a write that is not followed is in the part where it stands.
pub record Layout (ws : List NumberedWrite) : Type 0 where
  pub start : List NumberedWrite
  pub blocks : List (List NumberedWrite)
  pub end : List NumberedWrite
  pub parts : ws ≡ start ++ (joined_blocks blocks ++ end)
  pub start_shared : AllShared (followed start)
  pub selection_first : (block : List NumberedWrite) → Memᴰ block blocks
      → StartsWithSelection (unnumbered_writes block)
  pub setup : SetupBlocks (blocks_of (followed_each blocks))
  pub end_shared : AllShared (followed end)

-- the decision is yes exactly where the script is so
pub record AnyOrderMeans (ws : List NumberedWrite) : Type 0 where
  pub only : (order_of ws).any_order ≡ true → Layout ws
  pub every : Layout ws → (order_of ws).any_order ≡ true

abbrev pub AnyOrderExact : Type 0
AnyOrderExact = (ws : List NumberedWrite) → AnyOrderMeans ws

-- register writes, one after another
unfoldable pub run_writes : Hub → List NumberedWrite → Hub
run_writes hub [] = hub
run_writes hub (w ∷ ws) = run_writes (hub_burst hub w.offset (w.value ∷ [])) ws

-- "the script with its blocks in any other order ends alike from every start": every write of the script, in both
-- orders; those that are not followed move with their block. A layout is there exactly where the decision is yes.
-- (Every hub meets `ArrayLengths` and `FileOfBytes`: `hub::array_lengths` and `origins::start` prove it.)
abbrev pub AnyOrderHolds : Type 0
AnyOrderHolds =
    (hub : Hub) → ArrayLengths hub → FileOfBytes hub.registers
    → (ws : List NumberedWrite) (layout : Layout ws)
    → (reordered : List (List NumberedWrite)) → Permᴰ layout.blocks reordered
    → Alike (run_writes hub ws) (run_writes hub (layout.start ++ (joined_blocks reordered ++ layout.end)))
