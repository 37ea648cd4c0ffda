-- Setup blocks: document 01, "Setup blocks".
-- Assumes nothing.
use Rattle.std.specs.Prelude.{◌≡◌, Bool, cond, ℕ, ◌≤◌, ◌<◌, length}
use mathlib.Core.List.{List, [], ◌∷◌, ◌++◌, Memᴰ}
use Rattle.laws.specs.Bits.{bit}
use Rattle.registers.specs.RegisterMap.{FPD3_PORT_SEL}
use Rattle.registers.specs.Bursts.{RegisterWrite, burst_writes, AllPerPort}
use Rattle.hub.specs.declared.Hub.{Hub}
use Rattle.hub.specs.Hubs.{hub_burst}

-- a burst of register writes: its first offset and its values, perhaps none
pub record Burst : Type 0 where
  pub offset : ℕ
  pub values : List ℕ

-- "A block is a list of register writes, bursts and empty ones included; none is ever refused."
abbrev pub Block : Type 0
Block = List Burst

-- "Each write gets what the last one returned, and nobody else changes it meanwhile."
unfoldable pub run_block : Hub → Block → Hub
run_block hub [] = hub
run_block hub (burst ∷ bursts) = run_block (hub_burst hub burst.offset burst.values) bursts

-- the blocks whole, one after another
unfoldable pub run_blocks : Hub → List Block → Hub
run_blocks hub [] = hub
run_blocks hub (block ∷ blocks) = run_blocks (run_block hub block) blocks

-- "its bytes, in order", each with the offset that it goes to
unfoldable pub block_writes : Block → List RegisterWrite
block_writes [] = []
block_writes (burst ∷ bursts) = burst_writes burst.offset burst.values ++ block_writes bursts

-- "the first goes to 0x4C": there is a first one
abbrev pub StartsWithSelection : List RegisterWrite → Type 0
StartsWithSelection [] = ⊥
StartsWithSelection (write ∷ writes) = write.offset ≡ FPD3_PORT_SEL

-- the writes after the first
abbrev pub later_writes : List RegisterWrite → List RegisterWrite
later_writes [] = []
later_writes (write ∷ writes) = writes

-- "It writes at least one byte; of its bytes, in order, the first goes to 0x4C and every later one to an offset
-- marked P."
pub record IsSetupBlock (block : Block) : Type 0 where
  pub starts : StartsWithSelection (block_writes block)
  pub rest : AllPerPort (later_writes (block_writes block))

-- what the block writes to 0x4C: the value of its first byte
abbrev pub first_value : List RegisterWrite → ℕ
first_value [] = 0
first_value (write ∷ writes) = write.value

unfoldable pub selection_written : Block → ℕ
selection_written block = first_value (block_writes block)

-- "It ticks the ports that its value for 0x4C ticks": the block selects the port, with RX_WRITE_PORT of the port set.
-- (To tick is document 01's word.)
unfoldable pub selects : ℕ → Block → Bool
selects port block = bit port (selection_written block)

-- the blocks of a list that select a port
unfoldable pub selecting : ℕ → List Block → List Block
selecting port [] = []
selecting port (block ∷ blocks) = cond (selects port block) (block ∷ selecting port blocks) (selecting port blocks)

-- each block of the list is a setup block, and "No port is ticked by two blocks."
pub record SetupBlocks (blocks : List Block) : Type 0 where
  pub formed : (block : Block) → Memᴰ block blocks → IsSetupBlock block
  pub disjoint : (port : ℕ) → port < 4 → length (selecting port blocks) ≤ 1
