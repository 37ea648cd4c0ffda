-- Where the decision is yes, the script may be written with its blocks in any other order: both texts, run, end alike.
-- Assumes nothing.
use Rattle.std.specs.Prelude.{◌≡◌, true, ℕ}
use mathlib.Core.List.{List, ◌++◌, Permᴰ}
use Rattle.laws.specs.Reply.{given}
use Rattle.registers.specs.declared.power_up.PowerUp.{PowerUp}
use Rattle.hub.specs.declared.Hub.{Hub}
use Rattle.hub.specs.Hubs.{ArrayLengths}
use Rattle.setup.specs.Demand3.{Alike}
use Rattle.origins.specs.declared.NumberedWrite.{NumberedWrite}
use Rattle.origins.specs.NumberedWrites.{unnumbered_writes}
use Rattle.origins.specs.Origins.{FileOfBytes}
use Rattle.ordering.specs.Orders.{order_of}
use Rattle.ordering.specs.Layouts.{joined_blocks, Layout, run_writes}
use Rattle.script.specs.Reading.{script_trace}
use Rattle.scriptwrites.specs.NumberedCalls.{numbered_calls}
use Rattle.playback.specs.Playing.{end_hub}

-- "the script with its blocks in any other order": whatever the numbers of their lines, the other writes are those at
-- the script's start, then those of its blocks in some order, then those at its end.
pub record InOtherOrder (writes others : List NumberedWrite) : Type 0 where
  pub layout : Layout writes
  pub blocks : List (List NumberedWrite)
  pub reordered : Permᴰ layout.blocks blocks
  pub written : unnumbered_writes others ≡ unnumbered_writes (layout.start ++ (joined_blocks blocks ++ layout.end))

-- It "ends alike from every start": the writes of both texts, from any one hub (each meets `ArrayLengths` and
-- `FileOfBytes`, see `AnyOrderHolds` of ordering); and the player, where both are run with one address and start.
-- (Every script has a trace, with every address that a hub may have, in any buffer with room: `ScriptRun.made`.)
pub record EndAlike (text other : List ℕ) (writes others : List NumberedWrite) : Type 0 where
  pub from_every_start : (hub : Hub) → ArrayLengths hub → FileOfBytes hub.registers
      → Alike (run_writes hub writes) (run_writes hub others)
  pub played : (address : ℕ) (start : PowerUp) (room otherRoom : ℕ) (trace otherTrace : List ℕ)
      → script_trace address start text room ≡ given trace → script_trace address start other otherRoom ≡ given otherTrace
      → Alike (end_hub trace) (end_hub otherTrace)

-- there is a layout of the script, and every other text that has its blocks in another order ends alike
pub record Reorderable (text : List ℕ) (writes : List NumberedWrite) : Type 0 where
  pub layout : Layout writes
  pub alike : (other : List ℕ) (others : List NumberedWrite) → numbered_calls other ≡ given others
      → InOtherOrder writes others → EndAlike text other writes others

-- "the theorem that then the script with its blocks in any other order ends alike from every start, by demand 3. So the
-- theorem speaks of the script that she holds": of every text that is taken and whose decision is yes.
abbrev pub ScriptReordered : Type 0
ScriptReordered =
    (text : List ℕ) (writes : List NumberedWrite) → numbered_calls text ≡ given writes
    → (order_of writes).any_order ≡ true → Reorderable text writes
