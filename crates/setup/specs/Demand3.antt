-- Demand 3: setup blocks that tick disjoint ports end alike in every order. (A block that ticks a port, in document
-- 01's word, selects it: `selects`.)
--
-- Take any list of setup blocks, no port selected by two of them, and any hub to start from. Run the blocks whole, one
-- after another, in the order of the list and in any other order. Then the two ends are alike: the same registers of
-- every port, the same frame state, the same shared registers but FPD3_PORT_SEL, the same route for each port, and for
-- a write to each address the same devices or the same refusal. And the end is known: FPD3_PORT_SEL has the writable
-- bits of what the last block wrote there and its other bits as before, or is as it was if there is no block; a
-- selected port is as its own block alone leaves it from the same start; a port selected by no block, the frame state,
-- every other shared register and the own address are as they were.
--
-- It is about the code that runs: `hub::burst`, `hub::forwarding::route_of` and `translation::who_hears_write` ensure
-- equations with `hub_burst`, `route_of` and `who_hears_write`, which are the definitions here. And about every start:
-- `ArrayLengths` holds of every value of the type Hub, as `hub::array_lengths` ensures.
-- Assumes nothing.
use Rattle.std.specs.Prelude.{◌≡◌, true, false, ℕ, ◌<◌}
use mathlib.Core.List.{List, [], ◌∷◌, Memᴰ, Permᴰ}
use Rattle.laws.specs.MaskedWrites.{masked}
use Rattle.registers.specs.RegisterMap.{mask_of, FPD3_PORT_SEL}
use Rattle.registers.specs.RegisterFiles.{shared_at, page_at, selection}
use Rattle.hub.specs.declared.Hub.{Hub}
use Rattle.hub.specs.Hubs.{ArrayLengths, port_frames}
use Rattle.hub.specs.Routes.{route_of}
use Rattle.translation.specs.Translation.{who_hears_write}
use Rattle.setup.specs.SetupBlocks.{Block, run_block, run_blocks, selection_written, selects, SetupBlocks}

-- every shared register but the selection is in both hubs the same
abbrev pub SameShared : Hub → Hub → Type 0
SameShared a b =
    (offset : ℕ) → (offset ≡ FPD3_PORT_SEL → ⊥) → shared_at a.registers offset ≡ shared_at b.registers offset

-- "ends alike [...]: the same registers, the same frame state, the same route for each camera, and for a write to each
-- address the same devices reached or the same refusal. Only the selection register may differ" (document 01: "a
-- camera's route is its port's")
pub record Alike (a b : Hub) : Type 0 where
  pub pages : a.registers.pages ≡ b.registers.pages
  pub shared : SameShared a b
  pub frames : a.frames ≡ b.frames
  pub routes : (port : ℕ) → route_of a.registers port ≡ route_of b.registers port
  pub writes : (address : ℕ) → who_hears_write a address ≡ who_hears_write b address

-- "A port's state is its page and what it keeps of frames"
pub record SamePort (port : ℕ) (a b : Hub) : Type 0 where
  pub page : (offset : ℕ) → offset < 256
      → page_at a.registers.pages port offset ≡ page_at b.registers.pages port offset
  pub frame : port_frames a port ≡ port_frames b port

-- the selection "takes the writable bits of what the last block wrote there and keeps its other bits, or is as it was
-- if there is no block"
unfoldable pub selection_after : ℕ → List Block → ℕ
selection_after before [] = before
selection_after before (block ∷ []) = masked (mask_of FPD3_PORT_SEL) before (selection_written block)
selection_after before (block ∷ next ∷ blocks) = selection_after before (next ∷ blocks)

-- the end of the blocks from a start; "a block alone starts from the same"
pub record EndsAs (start : Hub) (blocks : List Block) (end : Hub) : Type 0 where
  pub selection : selection end.registers ≡ selection_after (selection start.registers) blocks
  pub selected : (port : ℕ) (block : Block) → port < 4 → Memᴰ block blocks → selects port block ≡ true
      → SamePort port end (run_block start block)
  pub unselected : (port : ℕ) → port < 4
      → ((block : Block) → Memᴰ block blocks → selects port block ≡ false) → SamePort port end start
  pub frames : end.frames ≡ start.frames
  pub shared : SameShared end start
  pub address : end.address ≡ start.address

abbrev pub Demand3 : Type 0
Demand3 =
    (start : Hub) → ArrayLengths start → (blocks reordered : List Block) → SetupBlocks blocks
    → Permᴰ blocks reordered
    → Alike (run_blocks start blocks) (run_blocks start reordered) × EndsAs start reordered (run_blocks start reordered)
