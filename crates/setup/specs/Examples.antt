-- Demand 3 is no empty claim: a list of two blocks that meets its premises, and for each premise two blocks that break
-- it alone and end otherwise in the other order. All from the hub 0x3D at reset.
-- Assumes nothing.
use Rattle.std.specs.Prelude.{[], ◌∷◌, ℕ, ◌≤◌, ◌<◌, length}
use Rattle.hub.specs.declared.Hub.{Hub}
use Rattle.hub.specs.Hubs.{hub_at}
use Rattle.registers.specs.declared.power_up.PowerUp.TheVariants.{Reset}
use Rattle.registers.specs.Bursts.{AllPerPort}
use Rattle.setup.specs.SetupBlocks.{Burst, Block, run_blocks, block_writes, StartsWithSelection, later_writes}
use Rattle.setup.specs.SetupBlocks.{selecting, SetupBlocks}
use Rattle.setup.specs.Demand3.{Alike}

abbrev start : Hub
start = hub_at Reset 0x3D

-- one register write
abbrev write : ℕ → ℕ → Burst
write offset value = record { offset = offset; values = value ∷ [] }

-- the two orders of two blocks
abbrev EndAlike : Block → Block → Type 0
EndAlike a b = Alike (run_blocks start (a ∷ b ∷ [])) (run_blocks start (b ∷ a ∷ []))

-- the premises one by one: both blocks start with the selection, their later bytes are per-port, and no port is ticked
-- by both
abbrev Start : Block → Block → Type 0
Start a b = StartsWithSelection (block_writes a) × StartsWithSelection (block_writes b)

abbrev PerPort : Block → Block → Type 0
PerPort a b = AllPerPort (later_writes (block_writes a)) × AllPerPort (later_writes (block_writes b))

abbrev Disjoint : Block → Block → Type 0
Disjoint a b = (port : ℕ) → port < 4 → length (selecting port (a ∷ b ∷ [])) ≤ 1

-- Ports 0 and 3 get pass-through, with an empty burst on the way; port 1 gets channel 1 for both formats by a burst.
abbrev pub pass_through03 : Block
pass_through03 = write 0x4C 0x09 ∷ record { offset = 0x20; values = [] } ∷ write 0x58 0x58 ∷ []

abbrev pub channels1 : Block
channels1 = write 0x4C 0x12 ∷ record { offset = 0x70; values = 0x6B ∷ 0x6C ∷ [] } ∷ []

pub record PremisesMet : Type 0 where
  pub blocks : SetupBlocks (pass_through03 ∷ channels1 ∷ [])
  pub alike : EndAlike pass_through03 channels1

-- Two blocks that tick port 0 and write different values: the last one stands.
abbrev pub pass_through_on0 : Block
pass_through_on0 = write 0x4C 0x01 ∷ write 0x58 0x58 ∷ []

abbrev pub pass_through_off0 : Block
pass_through_off0 = write 0x4C 0x01 ∷ write 0x58 0x18 ∷ []

pub record DisjointNeeded : Type 0 where
  pub starts : Start pass_through_on0 pass_through_off0
  pub per_port : PerPort pass_through_on0 pass_through_off0
  pub differ : EndAlike pass_through_on0 pass_through_off0 → ⊥

-- Blocks that also write the shared register FWD_CTL1.
abbrev pub forward0 : Block
forward0 = write 0x4C 0x01 ∷ write 0x20 0xE0 ∷ []

abbrev pub forward1 : Block
forward1 = write 0x4C 0x02 ∷ write 0x20 0xD0 ∷ []

pub record PerPortNeeded : Type 0 where
  pub starts : Start forward0 forward1
  pub disjoint : Disjoint forward0 forward1
  pub differ : EndAlike forward0 forward1 → ⊥

-- A block that does not start with 0x4C writes under the selection that the other one left. (By the value of its first
-- byte it would tick port 3.)
abbrev pub pass_through_unselected : Block
pass_through_unselected = write 0x58 0x58 ∷ []

abbrev pub select1 : Block
select1 = write 0x4C 0x02 ∷ []

pub record StartNeeded : Type 0 where
  pub per_port : PerPort pass_through_unselected select1
  pub disjoint : Disjoint pass_through_unselected select1
  pub differ : EndAlike pass_through_unselected select1 → ⊥
