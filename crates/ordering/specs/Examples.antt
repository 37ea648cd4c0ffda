-- Short scripts, decided: two blocks that may be run in any order, and a script for each reason that they may not.
-- Assumes nothing.
use Rattle.std.specs.Prelude.{◌≡◌, ℕ, true, false, List, [], ◌∷◌, ◌++◌, None, Some}
use Rattle.hub.specs.declared.Hub.{Hub}
use Rattle.hub.specs.Hubs.{ArrayLengths}
use Rattle.setup.specs.Demand3.{Alike}
use Rattle.origins.specs.declared.NumberedWrite.{NumberedWrite}
use Rattle.origins.specs.Origins.{FileOfBytes}
use Rattle.ordering.specs.Orders.{order_of}
use Rattle.ordering.specs.Layouts.{Layout, run_writes}
use Rattle.ordering.specs.Inside.{shared_in_block}
use Rattle.ordering.specs.BreakingWrites.{port_twice, before_selection}

abbrev pub write : ℕ → ℕ → ℕ → NumberedWrite
write number offset value = record { number = number; offset = offset; value = value }

-- ports 0 and 3 get pass-through, with a write between that is not followed; port 1 gets channel 1 for RAW10
abbrev pub pass_through_writes03 : List NumberedWrite
pass_through_writes03 = write 2 0x4C 0x09 ∷ write 3 0x33 0x01 ∷ write 4 0x58 0x58 ∷ []

abbrev pub channel1 : List NumberedWrite
channel1 = write 5 0x4C 0x12 ∷ write 6 0x70 0x6B ∷ []

-- FWD_CTL1: all ports are forwarded
abbrev pub forwarding : NumberedWrite
forwarding = write 7 0x20 0x00

-- with FWD_CTL2 at the start and FWD_CTL1 at the end
abbrev pub script : List NumberedWrite
script = write 1 0x21 0x01 ∷ (pass_through_writes03 ++ (channel1 ++ (forwarding ∷ [])))

pub record MayBeReordered : Type 0 where
  pub decided : (order_of script).any_order ≡ true
  pub not_inside : shared_in_block (pass_through_writes03 ++ channel1) forwarding [] ≡ false

-- the write that is not followed stays in its block, also in the other order
pub record KeptInBlock : Type 0 where
  pub layout : Layout script
  pub blocks : layout.blocks ≡ pass_through_writes03 ∷ channel1 ∷ []
  pub alike : (hub : Hub) → ArrayLengths hub → FileOfBytes hub.registers
      → Alike (run_writes hub script)
      (run_writes hub (write 1 0x21 0x01 ∷ (channel1 ++ (pass_through_writes03 ++ (forwarding ∷ [])))))

-- FWD_CTL1 between the blocks
pub record SharedBetween : Type 0 where
  pub decided : (order_of (pass_through_writes03 ++ (forwarding ∷ channel1))).any_order ≡ false
  pub inside : shared_in_block pass_through_writes03 forwarding channel1 ≡ true

-- a block for ports 3, 2 and 1 after those, and one for port 3 after that: of the two that ticked port 3 before, the
-- latest is named
pub record TickedTwice : Type 0 where
  pub decided : (order_of (pass_through_writes03 ++ (channel1 ++ (write 7 0x4C 0x0E ∷ [])))).any_order ≡ false
  pub port0 : port_twice 0 (pass_through_writes03 ++ channel1) (write 7 0x4C 0x0E) ≡ None
  pub port1 : port_twice 1 (pass_through_writes03 ++ channel1) (write 7 0x4C 0x0E) ≡ Some 5
  pub port2 : port_twice 2 (pass_through_writes03 ++ channel1) (write 7 0x4C 0x0E) ≡ None
  pub port3 : port_twice 3 (pass_through_writes03 ++ channel1) (write 7 0x4C 0x0E) ≡ Some 2
  pub latest : port_twice 3 (pass_through_writes03 ++ (write 7 0x4C 0x0E ∷ [])) (write 8 0x4C 0x08) ≡ Some 7

-- a per-port register before the first selection
pub record NotSelected : Type 0 where
  pub decided : (order_of (write 1 0x58 0x58 ∷ pass_through_writes03)).any_order ≡ false
  pub first : before_selection [] (write 1 0x58 0x58) ≡ true
