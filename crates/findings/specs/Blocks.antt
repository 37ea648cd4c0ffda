-- The blocks of a script: "a block begins at each write to 0x4C". They are counted from 1, and what stands before the
-- first one is in no block, 0.
-- Assumes nothing.
use Rattle.std.specs.Prelude.{ℕ, ◌+◌, Bool, cond, ◌&&◌, List, [], ◌∷◌, ◌==◌, nat_lt}
use Rattle.registers.specs.RegisterMap.{FPD3_PORT_SEL}
use Rattle.origins.specs.declared.NumberedWrite.{NumberedWrite}

-- the block that a write to an offset stands in, where the write before it stands in `block`
abbrev pub block_number : ℕ → ℕ → ℕ
block_number block offset = cond (offset == FPD3_PORT_SEL) (block + 1) block

-- that of the last write of a list, and so how many blocks the writes of a list begin
unfoldable pub last_block : ℕ → List NumberedWrite → ℕ
last_block block [] = block
last_block block (w ∷ ws) = last_block (block_number block w.offset) ws

abbrev pub blocks_begun : List NumberedWrite → ℕ
blocks_begun ws = last_block 0 ws

-- the writes of a list, each with its block in place of its number
unfoldable pub numbered_by_block : ℕ → List NumberedWrite → List NumberedWrite
numbered_by_block block [] = []
numbered_by_block block (w ∷ ws) =
    let own = block_number block w.offset in
    record { number = own; offset = w.offset; value = w.value } ∷ numbered_by_block own ws

-- a block, and an earlier one than the present
abbrev pub is_earlier : ℕ → ℕ → Bool
is_earlier block present = nat_lt 0 block && nat_lt block present
