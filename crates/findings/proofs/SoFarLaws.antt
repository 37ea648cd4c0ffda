-- What is known after writes, part by part: the registers with their origins, the blocks, the order and the extent.
-- Assumes nothing.
use Rattle.std.proofs.Common.{◌≡◌, ℕ, ◌+◌, ◌^◌, ◌<◌, ◌≤◌, Bool, true, false, cond, eqb, List, [], ◌∷◌, length, refl, ap, ◌∙◌, mod-eq_of_lt, arith}
use Rattle.registers.specs.declared.RegisterFile.{RegisterFile}
use Rattle.registers.specs.RegisterMap.{FPD3_PORT_SEL}
use Rattle.origins.specs.declared.RegistersWithOrigins.{RegistersWithOrigins}
use Rattle.origins.specs.declared.NumberedWrite.{NumberedWrite}
use Rattle.origins.specs.Origins.{after_each}
use Rattle.origins.specs.KeptOrigins.{write_numbered, write_numbered_each, start_with}
use Rattle.origins.proofs.KeptOrigins.{every_origin_kept}
use Rattle.ordering.specs.Orders.{order_after, order_of}
use Rattle.ordering.specs.Inside.{extent_after, extent_of}
use Rattle.findings.specs.declared.WritesSoFar.{WritesSoFar}
use Rattle.findings.specs.Blocks.{block_number, last_block, blocks_begun, numbered_by_block}
use Rattle.findings.specs.WritesSoFar.{start_so_far, next_block, step_so_far, step_each, so_far, EveryPartKept}

numbers_after : (s : WritesSoFar) (ws : List NumberedWrite)
    → (step_each s ws).numbers ≡ write_numbered_each s.numbers ws
unfolding step_each step_so_far write_numbered_each
numbers_after s [] = refl
numbers_after s (w ∷ ws) = numbers_after (step_so_far s w) ws

order_after_lem : (s : WritesSoFar) (ws : List NumberedWrite) → (step_each s ws).order ≡ order_after s.order ws
unfolding step_each step_so_far order_after
order_after_lem s [] = refl
order_after_lem s (w ∷ ws) = order_after_lem (step_so_far s w) ws

extent_after_lem : (s : WritesSoFar) (ws : List NumberedWrite) → (step_each s ws).extent ≡ extent_after s.extent ws
unfolding step_each step_so_far extent_after
extent_after_lem s [] = refl
extent_after_lem s (w ∷ ws) = extent_after_lem (step_so_far s w) ws

-- a count of 64 bits does not wrap
counted : (block offset : ℕ) → block + 1 < 2 ^ 64 → next_block block offset ≡ block_number block offset
counted block offset h = ap (λ (n : ℕ). cond (eqb offset FPD3_PORT_SEL) n block) (mod-eq_of_lt h)

at_most_one : (block offset : ℕ) → block_number block offset ≤ block + 1
at_most_one block offset = go (eqb offset FPD3_PORT_SEL)
  where
    go : (b : Bool) → cond b (block + 1) block ≤ block + 1
    go true = omega arith
    go false = omega arith

-- the block, and the registers with the blocks of their origins
pub record BlocksKept (s : WritesSoFar) (ws : List NumberedWrite) : Type 0 where
  pub block : (step_each s ws).block ≡ last_block s.block ws
  pub blocks : (step_each s ws).blocks ≡ write_numbered_each s.blocks (numbered_by_block s.block ws)

blocks_after : (s : WritesSoFar) (ws : List NumberedWrite) → s.block + length ws < 2 ^ 64 → BlocksKept s ws
unfolding step_each step_so_far write_numbered_each last_block numbered_by_block
blocks_after s [] h = record { block = refl; blocks = refl }
blocks_after s (w ∷ ws) h =
    let next = next_block s.block w.offset in
    let e : next ≡ block_number s.block w.offset = counted s.block w.offset (omega arith) in
    let few : next + length ws < 2 ^ 64 = omega (arith, e, at_most_one s.block w.offset) in
    let rest = blocks_after (step_so_far s w) ws few in
    record {
      block = rest.block ∙ ap (λ (b : ℕ). last_block b ws) e;
      blocks = rest.blocks
          ∙ ap (λ (b : ℕ). write_numbered_each
          (write_numbered s.blocks (record { number = b; offset = w.offset; value = w.value }))
          (numbered_by_block b ws)) e;
    }

module _ (start : RegisterFile) (ws : List NumberedWrite) where
  pub numbers_kept : (so_far start ws).numbers ≡ write_numbered_each (start_with start) ws
  unfolding start_so_far
  numbers_kept = numbers_after (start_so_far start) ws

  pub file_kept : (so_far start ws).numbers.registers ≡ after_each start ws
  file_kept =
      ap (λ (r : RegistersWithOrigins). r.registers) numbers_kept ∙ (every_origin_kept start ws).registers

  pub order_kept : (so_far start ws).order ≡ order_of ws
  unfolding start_so_far
  order_kept = order_after_lem (start_so_far start) ws

  pub extent_kept : (so_far start ws).extent ≡ extent_of ws
  unfolding start_so_far
  extent_kept = extent_after_lem (start_so_far start) ws

  module _ (few : length ws < 2 ^ 64) where
    kept : BlocksKept (start_so_far start) ws
    unfolding start_so_far
    kept = blocks_after (start_so_far start) ws (omega arith)

    pub block_kept : (so_far start ws).block ≡ blocks_begun ws
    unfolding start_so_far
    block_kept = kept.block

    pub blocks_kept : (so_far start ws).blocks ≡ write_numbered_each (start_with start) (numbered_by_block 0 ws)
    unfolding start_so_far
    blocks_kept = kept.blocks

pub every_part_kept : EveryPartKept
every_part_kept start ws =
    record { numbers = numbers_kept start ws; order = order_kept start ws; extent = extent_kept start ws }
