-- The examples and counterexamples of specs/Examples.antt, computed.
-- Assumes nothing.
use mathlib.Core.Path.{◌≡◌, refl, ap}
use mathlib.Core.Bool.{Bool}
use mathlib.Core.List.Permᴰ
use mathlib.Core.List.{List, [], ◌∷◌, Memᴰ}
use Prim.Native.Nat.{ℕ, ◌≤◌, ◌<◌}
use native.Mathlib.Omega.{arith}
use lib.Dec.{T, leb, leb→le}
use lib.ListN.{length, get_or}
use Rattle.laws.specs.Bits.{bit}
use Rattle.laws.specs.MaskedWrites.{masked}
use Rattle.laws.specs.Tables.{tabulate, tabulate_from}
use Rattle.laws.proofs.Tables.{all_below, below_at}
use Rattle.registers.specs.declared.RegisterFile.{RegisterFile}
use Rattle.registers.specs.declared.PageAccess.TheVariants.{Selection}
use Rattle.registers.specs.declared.power_up.PowerUp.TheVariants.{Reset}
use Rattle.registers.specs.RegisterMap.{rows, row_in, reset_of, mask_of, per_port, FWD_CTL1, FPD3_PORT_SEL}
use Rattle.registers.specs.RegisterFiles.{shared_at, page_reset_at, reset_file}
use Rattle.registers.specs.RegisterFiles.{write_shared, write_page, write_ports, write_register}
use Rattle.registers.specs.PowerUps.{power_up_file}
use Rattle.registers.specs.Bursts.{burst_writes, write_each}
use Rattle.hub.specs.Hubs.{hub_at}
use Rattle.hub.proofs.Hubs.{start_registers, start_lengths}
use Rattle.setup.specs.SetupBlocks.{Block, run_blocks, block_writes, IsSetupBlock, selection_written}
use Rattle.setup.specs.SetupBlocks.{selects, selecting, SetupBlocks}
use Rattle.setup.specs.Demand3.{Alike}
use Rattle.setup.specs.Examples.{pass_through03, channels1, PremisesMet, pass_through_on0, pass_through_off0}
use Rattle.setup.specs.Examples.{DisjointNeeded, forward0, forward1, PerPortNeeded}
use Rattle.setup.specs.Examples.{pass_through_unselected, select1, StartNeeded}
use Rattle.setup.proofs.Runs.{all_writes, blocks_registers}
use Rattle.setup.proofs.Order.{demand_3}

-- each of two blocks is a setup block
both : (a b : Block) → IsSetupBlock a → IsSetupBlock b
    → (block : Block) → Memᴰ block (a ∷ b ∷ []) → IsSetupBlock block
both a b ha hb block (Memᴰ.head e) = rw e ha
both a b ha hb block (Memᴰ.tail (Memᴰ.head e)) = rw e hb
both a b ha hb block (Memᴰ.tail (Memᴰ.tail m)) = elim m [ ]

-- at most one of two blocks selects each port, by a computed test
one_selects : Block → Block → ℕ → Bool
one_selects a b port = leb (length (selecting port (a ∷ b ∷ []))) 1

apart : (a b : Block) → T (all_below (one_selects a b) 4)
    → (port : ℕ) → port < 4 → length (selecting port (a ∷ b ∷ [])) ≤ 1
unfolding one_selects
apart a b t port h = leb→le (length (selecting port (a ∷ b ∷ []))) 1 (below_at (one_selects a b) 4 t port h)

two_blocks_lem : SetupBlocks (pass_through03 ∷ channels1 ∷ [])
unfolding all_below one_selects selecting selects selection_written block_writes burst_writes bit per_port row_in rows
two_blocks_lem =
    record {
      formed = both pass_through03 channels1
          (record { starts = refl; rest = (refl, tt) }) (record { starts = refl; rest = (refl, (refl, tt)) });
      disjoint = apart pass_through03 channels1 tt;
    }

pub premises_met : PremisesMet
premises_met =
    record {
      blocks = two_blocks_lem;
      alike = (demand_3 (hub_at Reset 0x3D) (start_lengths Reset 0x3D)
          (pass_through03 ∷ channels1 ∷ []) (channels1 ∷ pass_through03 ∷ []) two_blocks_lem (Permᴰ.swap refl refl)).0;
    }

-- the registers after two blocks from the reset
after : Block → Block → RegisterFile
after a b = write_each Selection reset_file (all_writes (a ∷ b ∷ []))

after_two : (a b : Block) → (run_blocks (hub_at Reset 0x3D) (a ∷ b ∷ [])).registers ≡ after a b
unfolding after power_up_file
after_two a b = rw (blocks_registers (hub_at Reset 0x3D) (a ∷ b ∷ []), start_registers (power_up_file Reset) 0x3D)

abbrev EndAlike : Block → Block → Type 0
EndAlike a b = Alike (run_blocks (hub_at Reset 0x3D) (a ∷ b ∷ [])) (run_blocks (hub_at Reset 0x3D) (b ∷ a ∷ []))

same_page : (a b : Block) (index : ℕ) → EndAlike a b → get_or (after a b).pages index 0 ≡ get_or (after b a).pages index 0
same_page a b index h = rw (after_two a b, after_two b a) at (ap (λ (l : List ℕ). get_or l index 0) h.pages)

same_forwarding : (a b : Block) → EndAlike a b → shared_at (after a b) FWD_CTL1 ≡ shared_at (after b a) FWD_CTL1
same_forwarding a b h =
    rw (after_two a b, after_two b a) at (h.shared FWD_CTL1 (λ (e : FWD_CTL1 ≡ FPD3_PORT_SEL). omega arith))

-- BCC_CONFIG of port 0, FWD_CTL1, and BCC_CONFIG of port 1
differ : (EndAlike pass_through_on0 pass_through_off0 → ⊥)
    × ((EndAlike forward0 forward1 → ⊥) × (EndAlike pass_through_unselected select1 → ⊥))
unfolding after all_writes block_writes burst_writes write_each write_register write_ports write_page write_shared
    masked mask_of bit per_port row_in rows reset_file page_reset_at reset_of tabulate tabulate_from
differ = (
  λ h. (let z : ◌≡◌ {A = ℕ} 0x18 0x58 = same_page pass_through_on0 pass_through_off0 0x58 h in omega arith),
  (
    λ h. (let z : ◌≡◌ {A = ℕ} 0xD0 0xE0 = same_forwarding forward0 forward1 h in omega arith),
    λ h. (let z : ◌≡◌ {A = ℕ} 0x18 0x58 = same_page pass_through_unselected select1 0x158 h in omega arith),
  ),
)

pub disjoint_needed : DisjointNeeded
unfolding block_writes burst_writes per_port row_in rows
disjoint_needed = record { starts = (refl, refl); per_port = ((refl, tt), (refl, tt)); differ = differ.0 }

pub per_port_needed : PerPortNeeded
unfolding all_below one_selects selecting selects selection_written block_writes burst_writes bit
per_port_needed = record { starts = (refl, refl); disjoint = apart forward0 forward1 tt; differ = differ.1.0 }

pub start_needed : StartNeeded
unfolding all_below one_selects selecting selects selection_written block_writes burst_writes bit
start_needed =
    record { per_port = (tt, tt); disjoint = apart pass_through_unselected select1 tt; differ = differ.1.1 }
