-- How the code goes through the writes of a script.
-- Assumes nothing.
use Rattle.std.specs.Prelude.{◌≡◌, ℕ, ◌+◌, ◌%◌, ◌^◌, cond, List, [], ◌∷◌, ◌==◌}
use Rattle.registers.specs.declared.RegisterFile.{RegisterFile}
use Rattle.registers.specs.RegisterMap.{FPD3_PORT_SEL}
use Rattle.origins.specs.declared.effects.Effect.{Effect}
use Rattle.origins.specs.declared.NumberedWrite.{NumberedWrite}
use Rattle.origins.specs.KeptOrigins.{write_numbered, write_numbered_each, start_with}
use Rattle.origins.specs.Effects.{effect_of}
use Rattle.ordering.specs.Orders.{order_step, first_order, order_of}
use Rattle.ordering.specs.Inside.{extent_step, first_extent, extent_of}
use Rattle.findings.specs.declared.WritesSoFar.{WritesSoFar}

unfoldable pub start_so_far : RegisterFile → WritesSoFar
start_so_far file =
    record {
      numbers = start_with file;
      blocks = start_with file;
      block = 0;
      order = first_order;
      extent = first_extent;
    }

-- blocks are counted in 64 bits
abbrev pub next_block : ℕ → ℕ → ℕ
next_block block offset = cond (offset == FPD3_PORT_SEL) ((block + 1) % 2 ^ 64) block

unfoldable pub step_so_far : WritesSoFar → NumberedWrite → WritesSoFar
step_so_far before w =
    let block = next_block before.block w.offset in
    record {
      numbers = write_numbered before.numbers w;
      blocks = write_numbered before.blocks (record { number = block; offset = w.offset; value = w.value });
      block = block;
      order = order_step before.order w;
      extent = extent_step before.extent w.offset;
    }

unfoldable pub step_each : WritesSoFar → List NumberedWrite → WritesSoFar
step_each before [] = before
step_each before (w ∷ ws) = step_each (step_so_far before w) ws

-- what is known after writes from a start
abbrev pub so_far : RegisterFile → List NumberedWrite → WritesSoFar
so_far start ws = step_each (start_so_far start) ws

-- what the next write does
abbrev pub effect_now : WritesSoFar → NumberedWrite → Effect
effect_now before w = effect_of before.numbers.registers w.offset w.value

-- The registers with their origins, the order and the extent are those of `origins` and `ordering`.
pub record PartsKept (start : RegisterFile) (ws : List NumberedWrite) : Type 0 where
  pub numbers : (so_far start ws).numbers ≡ write_numbered_each (start_with start) ws
  pub order : (so_far start ws).order ≡ order_of ws
  pub extent : (so_far start ws).extent ≡ extent_of ws

abbrev pub EveryPartKept : Type 0
EveryPartKept = (start : RegisterFile) (ws : List NumberedWrite) → PartsKept start ws
