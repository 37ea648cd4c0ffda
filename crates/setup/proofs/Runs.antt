-- What the blocks of a list do to the registers.
-- Assumes nothing.
use mathlib.Core.Path.{◌≡◌, refl, ◌∙◌}
use mathlib.Core.Bool.{Bool, true, false, cond}
use mathlib.Core.List.{List, [], ◌∷◌, ◌++◌, Memᴰ}
use Prim.Native.Nat.{ℕ}
use lib.ListN.{length}
use Rattle.laws.specs.Bits.{bit}
use Rattle.laws.specs.MaskedWrites.{masked}
use Rattle.registers.specs.declared.RegisterFile.{RegisterFile}
use Rattle.registers.specs.declared.PageAccess.TheVariants.{Selection}
use Rattle.registers.specs.RegisterMap.{mask_of, FPD3_PORT_SEL}
use Rattle.registers.specs.RegisterFiles.{selection}
use Rattle.registers.specs.Bursts.{RegisterWrite, burst_writes, write_each, AllPerPort}
use Rattle.registers.proofs.Bursts.{writes_none, writes_append}
use Rattle.registers.proofs.PageWrites.{after_writes}
use Rattle.registers.proofs.Selection.{SelectionChanged, after_selecting, selected_again}
use Rattle.hub.specs.declared.Hub.{Hub}
use Rattle.hub.specs.Hubs.{with_registers, hub_burst}
use Rattle.hub.proofs.Hubs.{burst_registers}
use Rattle.setup.specs.SetupBlocks.{Block, run_block, run_blocks, block_writes, StartsWithSelection, later_writes}
use Rattle.setup.specs.SetupBlocks.{IsSetupBlock, first_value, selection_written, selects, selecting}
use Rattle.setup.specs.Demand3.{selection_after}

-- blocks change the registers alone: a block does its writes one after another, and a list those of its blocks
pub block_registers : (hub : Hub) (block : Block)
    → run_block hub block ≡ with_registers hub (write_each Selection hub.registers (block_writes block))
unfolding run_block block_writes
block_registers hub [] = rw (writes_none Selection hub.registers)
block_registers hub (burst ∷ bursts) =
    let writes = burst_writes burst.offset burst.values in
    block_registers (hub_burst hub burst.offset burst.values) bursts
    ∙ rw (burst_registers hub burst.offset burst.values)
    (rw (writes_append Selection hub.registers writes (block_writes bursts)))

unfoldable pub all_writes : List Block → List RegisterWrite
all_writes [] = []
all_writes (block ∷ blocks) = block_writes block ++ all_writes blocks

pub blocks_registers : (hub : Hub) (blocks : List Block)
    → run_blocks hub blocks ≡ with_registers hub (write_each Selection hub.registers (all_writes blocks))
unfolding run_blocks all_writes
blocks_registers hub [] = rw (writes_none Selection hub.registers)
blocks_registers hub (block ∷ blocks) =
    blocks_registers (run_block hub block) blocks
    ∙ rw (block_registers hub block, writes_append Selection hub.registers (block_writes block) (all_writes blocks))

-- a setup block: the ports that it selects get its later writes
pub after_block : (file : RegisterFile) → length file.shared ≡ 256 → length file.pages ≡ 1024
    → (block : Block) → IsSetupBlock block
    → SelectionChanged (masked (mask_of FPD3_PORT_SEL) (selection file) (selection_written block))
    (λ port offset x. cond (selects port block) (after_writes offset (later_writes (block_writes block)) x) x)
    file (write_each Selection file (block_writes block))
unfolding selects selection_written
after_block file shared_count page_count block k = go (block_writes block) k.starts k.rest
  where
    go : (writes : List RegisterWrite) → StartsWithSelection writes → AllPerPort (later_writes writes)
        → SelectionChanged (masked (mask_of FPD3_PORT_SEL) (selection file) (first_value writes))
        (λ port offset x. cond (bit port (first_value writes)) (after_writes offset (later_writes writes) x) x)
        file (write_each Selection file writes)
    go [] starts rest = absurd starts
    go (write ∷ writes) starts rest = after_selecting file shared_count page_count write starts writes rest

-- what a register at an offset, which holds x, holds after the blocks of a list, each of which writes its port
unfoldable pub after_blocks : ℕ → List Block → ℕ → ℕ
after_blocks offset [] x = x
after_blocks offset (block ∷ blocks) x =
    after_blocks offset blocks (after_writes offset (later_writes (block_writes block)) x)

one_more : (offset x : ℕ) (block : Block) (blocks : List Block) (b : Bool)
    → after_blocks offset blocks (cond b (after_writes offset (later_writes (block_writes block)) x) x)
    ≡ after_blocks offset (cond b (block ∷ blocks) blocks) x
unfolding after_blocks
one_more offset x block blocks true = refl
one_more offset x block blocks false = refl

-- a later selection hides an earlier one
hides : (before value : ℕ) (block : Block) (blocks : List Block)
    → selection_after (masked (mask_of FPD3_PORT_SEL) before value) (block ∷ blocks)
    ≡ selection_after before (block ∷ blocks)
unfolding selection_after
hides before value block [] = selected_again before value (selection_written block)
hides before value block (next ∷ blocks) = hides before value next blocks

selection_cons : (before : ℕ) (block : Block) (blocks : List Block)
    → selection_after (masked (mask_of FPD3_PORT_SEL) before (selection_written block)) blocks
    ≡ selection_after before (block ∷ blocks)
unfolding selection_after
selection_cons before block [] = refl
selection_cons before block (next ∷ blocks) = hides before (selection_written block) next blocks

-- the blocks of a list: of a port's registers, what the blocks that select the port make of them
pub after_blocks_lem : (file : RegisterFile) → length file.shared ≡ 256 → length file.pages ≡ 1024
    → (blocks : List Block) → ((block : Block) → Memᴰ block blocks → IsSetupBlock block)
    → SelectionChanged (selection_after (selection file) blocks)
    (λ port offset x. after_blocks offset (selecting port blocks) x)
    file (write_each Selection file (all_writes blocks))
unfolding all_writes selecting selection_after after_blocks
after_blocks_lem file shared_count page_count [] k =
    rw (writes_none Selection file)
    (record {
      selection = refl;
      shared = λ offset ne. refl;
      shared_count = shared_count;
      page_count = page_count;
      register = λ port offset hp ho. refl;
    })
after_blocks_lem file shared_count page_count (block ∷ blocks) k =
    let a = after_block file shared_count page_count block (k block (Memᴰ.head refl)) in
    let r = after_blocks_lem (write_each Selection file (block_writes block)) a.shared_count a.page_count blocks (λ other m. k other (Memᴰ.tail m)) in
    rw (writes_append Selection file (block_writes block) (all_writes blocks))
    (record {
      selection = r.selection ∙ rw a.selection (selection_cons (selection file) block blocks);
      shared = λ offset ne. r.shared offset ne ∙ a.shared offset ne;
      shared_count = r.shared_count;
      page_count = r.page_count;
      register = λ port offset hp ho. r.register port offset hp ho
          ∙ rw (a.register port offset hp ho) (one_more offset _ block (selecting port blocks) (selects port block));
    })
