-- The blocks that the writes of a list stand in, and the block of a register's origin.
-- Assumes nothing.
use Rattle.std.proofs.Common.{◌≡◌, ℕ, ◌+◌, Bool, true, false, cond, eqb, List, [], ◌∷◌, ◌++◌, refl, ap, ◌∙◌, arith, eqb-true}
use mathlib.Core.Option.{some}
use Rattle.laws.proofs.Absurd.{zero_not_one}
use Rattle.registers.specs.declared.RegisterFile.{RegisterFile}
use Rattle.registers.specs.declared.PageAccess.TheVariants.{Selection}
use Rattle.registers.specs.RegisterMap.{mask_of, per_port, FPD3_PORT_SEL}
use Rattle.registers.specs.Bursts.{RegisterWrite, write_each}
use Rattle.origins.specs.declared.NumberedWrite.{NumberedWrite}
use Rattle.origins.specs.NumberedWrites.{unnumbered, unnumbered_writes}
use Rattle.origins.specs.Origins.{Register, port_register, reaches, after_numbered, after_each, origin_of}
use Rattle.origins.specs.Origins.{NoneReaches, LastReaching}
use Rattle.origins.proofs.LastWrites.{every_origin_is_last}
use Rattle.origins.proofs.Reaching.{no_port_lem}
use Rattle.ordering.proofs.KindLaws.{kind_not_followed, paged_kind_lem, selection_kind}
use Rattle.findings.specs.Blocks.{block_number, last_block, blocks_begun, numbered_by_block}

block_from : (block offset : ℕ) → block_number block offset ≡ block + block_number 0 offset
block_from block offset = go (eqb offset FPD3_PORT_SEL)
  where
    go : (b : Bool) → cond b (block + 1) block ≡ block + cond b (0 + 1) 0
    go true = omega arith
    go false = omega arith

last_from : (block : ℕ) (ws : List NumberedWrite) → last_block block ws ≡ block + blocks_begun ws
unfolding last_block
last_from block [] = omega arith
last_from block (w ∷ ws) =
    omega (
      arith,
      last_from (block_number block w.offset) ws,
      last_from (block_number 0 w.offset) ws,
      block_from block w.offset,
    )

last_append : (block : ℕ) (a b : List NumberedWrite) → last_block block (a ++ b) ≡ last_block (last_block block a) b
unfolding last_block
last_append block [] b = refl
last_append block (w ∷ a) b = last_append (block_number block w.offset) a b

-- a write with its block in place of its number
abbrev pub in_block : ℕ → NumberedWrite → NumberedWrite
in_block block w = record { number = block_number block w.offset; offset = w.offset; value = w.value }

by_block_append : (block : ℕ) (a b : List NumberedWrite)
    → numbered_by_block block (a ++ b) ≡ numbered_by_block block a ++ numbered_by_block (last_block block a) b
unfolding last_block numbered_by_block
by_block_append block [] b = refl
by_block_append block (w ∷ a) b =
    ap (λ (l : List NumberedWrite). in_block block w ∷ l) (by_block_append (block_number block w.offset) a b)

same_writes : (block : ℕ) (ws : List NumberedWrite)
    → unnumbered_writes (numbered_by_block block ws) ≡ unnumbered_writes ws
unfolding numbered_by_block unnumbered_writes
same_writes block [] = refl
same_writes block (w ∷ ws) =
    ap (λ (l : List RegisterWrite). unnumbered w ∷ l) (same_writes (block_number block w.offset) ws)

module _ (register : Register) where
  -- which write is the last that reaches a register does not depend on the numbers
  pub none_reaches : (file : RegisterFile) (block : ℕ) (ws : List NumberedWrite) → NoneReaches file ws register
      → NoneReaches file (numbered_by_block block ws) register
  unfolding numbered_by_block
  none_reaches file block [] n = tt
  none_reaches file block (w ∷ ws) n =
      (n.0, none_reaches (after_numbered file w) (block_number block w.offset) ws n.1)

  module _ (file : RegisterFile) (ws : List NumberedWrite) (o : NumberedWrite)
      (last : LastReaching file ws register o) where
    last_in_block : LastReaching file (numbered_by_block 0 ws) register (in_block (blocks_begun last.earlier) o)
    unfolding numbered_by_block
    last_in_block =
        let same : after_each file (numbered_by_block 0 last.earlier) ≡ after_each file last.earlier =
        ap (write_each Selection file) (same_writes 0 last.earlier) in
        record {
          earlier = numbered_by_block 0 last.earlier;
          later = numbered_by_block (block_number (blocks_begun last.earlier) o.offset) last.later;
          split = ap (numbered_by_block 0) last.split ∙ by_block_append 0 last.earlier (o ∷ last.later);
          reaching = rw same last.reaching;
          last = rw same (none_reaches _ _ last.later last.last);
        }

    pub origin_in_block : origin_of file (numbered_by_block 0 ws) register
        ≡ some (in_block (blocks_begun last.earlier) o)
    origin_in_block = (every_origin_is_last file (numbered_by_block 0 ws) register).every_last _ last_in_block

-- a write to FPD3_PORT_SEL reaches no register of a port
selection_unpaged : per_port FPD3_PORT_SEL ≡ false
selection_unpaged = go (per_port FPD3_PORT_SEL) refl
  where
    go : (b : Bool) → per_port FPD3_PORT_SEL ≡ b → b ≡ false
    go false p = refl
    go true p = let one = paged_kind_lem FPD3_PORT_SEL p in let other = selection_kind in zero_not_one (cc)

selection_writable : mask_of FPD3_PORT_SEL ≡ 0 → ⊥
selection_writable m = let one = kind_not_followed FPD3_PORT_SEL m in let other = selection_kind in zero_not_one (cc)

in_same_block : (file : RegisterFile) (port offset at block : ℕ) → reaches file at (port_register port offset) ≡ true
    → block_number block at ≡ block
in_same_block file port offset at block r = go (eqb at FPD3_PORT_SEL) refl
  where
    go : (b : Bool) → eqb at FPD3_PORT_SEL ≡ b → cond b (block + 1) block ≡ block
    go false e = refl
    go true e =
        let here = eqb-true at FPD3_PORT_SEL e in
        let none = no_port_lem file FPD3_PORT_SEL selection_writable selection_unpaged port offset in
        let some : reaches file FPD3_PORT_SEL (port_register port offset) ≡ true = rw here at r in
        zero_not_one (cc)

-- the block of a port register's origin, and how many there are in all
module _ (port offset : ℕ) (file : RegisterFile) (ws : List NumberedWrite) (o : NumberedWrite)
    (last : LastReaching file ws (port_register port offset) o) where
  pub own_block : block_number (blocks_begun last.earlier) o.offset ≡ blocks_begun last.earlier
  own_block = in_same_block _ port offset o.offset (blocks_begun last.earlier) last.reaching

  pub all_blocks : blocks_begun ws ≡ blocks_begun last.earlier + blocks_begun last.later
  unfolding last_block
  all_blocks =
      ap blocks_begun last.split
      ∙ last_append 0 last.earlier (o ∷ last.later)
      ∙ ap (λ (b : ℕ). last_block b last.later) own_block
      ∙ last_from (blocks_begun last.earlier) last.later
