-- The writes of a block that is made of register writes, and the ports that it selects.
-- Assumes nothing.
use Rattle.std.proofs.Common.{◌≡◌, ℕ, List, [], ◌∷◌, refl}
use Rattle.laws.specs.Bits.{bit}
use Rattle.registers.specs.RegisterMap.{FPD3_PORT_SEL}
use Rattle.registers.specs.Bursts.{burst_writes, AllPerPort}
use Rattle.setup.specs.SetupBlocks.{block_writes, IsSetupBlock, selection_written, selects}
use Rattle.origins.specs.declared.NumberedWrite.{NumberedWrite}
use Rattle.origins.specs.NumberedWrites.{unnumbered_writes}
use Rattle.ordering.specs.Layouts.{block_of}

pub block_writes_lem : (ws : List NumberedWrite) → block_writes (block_of ws) ≡ unnumbered_writes ws
unfolding block_writes burst_writes unnumbered_writes
block_writes_lem [] = refl
block_writes_lem (w ∷ ws) = rw (block_writes_lem ws)

module _ (w : NumberedWrite) (ws : List NumberedWrite) where
  pub setup_block : w.offset ≡ FPD3_PORT_SEL → AllPerPort (unnumbered_writes ws) → IsSetupBlock (block_of (w ∷ ws))
  unfolding unnumbered_writes
  setup_block s p = record { starts = rw (block_writes_lem (w ∷ ws)) s; rest = rw (block_writes_lem (w ∷ ws)) p }

  pub block_starts : IsSetupBlock (block_of (w ∷ ws)) → w.offset ≡ FPD3_PORT_SEL
  unfolding unnumbered_writes
  block_starts k = rw (block_writes_lem (w ∷ ws)) at k.starts

  pub block_rest : IsSetupBlock (block_of (w ∷ ws)) → AllPerPort (unnumbered_writes ws)
  unfolding unnumbered_writes
  block_rest k = rw (block_writes_lem (w ∷ ws)) at k.rest

  pub block_selects : (port : ℕ) → selects port (block_of (w ∷ ws)) ≡ bit port w.value
  unfolding selects selection_written unnumbered_writes
  block_selects port = rw (block_writes_lem (w ∷ ws))

pub no_block : IsSetupBlock (block_of []) → ⊥
unfolding unnumbered_writes
no_block k = rw (block_writes_lem []) at k.starts
