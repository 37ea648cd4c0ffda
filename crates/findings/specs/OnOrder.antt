-- The findings on the order of the blocks, from what is known after the writes before.
-- Assumes nothing.
use Rattle.std.specs.Prelude.{◌≡◌, ℕ, ◌^◌, ◌<◌, List, ◌∷◌, ◌++◌, length}
use Rattle.registers.specs.declared.RegisterFile.{RegisterFile}
use Rattle.origins.specs.declared.NumberedWrite.{NumberedWrite}
use Rattle.ordering.specs.Orders.{port_twice_now}
use Rattle.ordering.specs.Inside.{shared_in_block, shared_inside_now}
use Rattle.ordering.specs.BreakingWrites.{port_twice}
use Rattle.findings.specs.WritesSoFar.{so_far}

-- `port-twice`: "a write to 0x4C ticks a port that an earlier one ticked: the latest such line and this one, one
-- finding a port"
abbrev pub PortTwiceFound : Type 0
PortTwiceFound =
    (start : RegisterFile) (before : List NumberedWrite) (w : NumberedWrite) (port : ℕ) → port < 4
    → port_twice_now (so_far start before).order w port ≡ port_twice port before w

-- `shared-in-block`: "a shared register other than 0x4C is written after the first selection, and a selection or a
-- per-port write follows"
abbrev pub SharedInBlockFound : Type 0
SharedInBlockFound =
    (start : RegisterFile) (before : List NumberedWrite) (w : NumberedWrite) (after : List NumberedWrite)
    → length (before ++ (w ∷ after)) < 2 ^ 64
    → shared_inside_now (so_far start before).extent (so_far start (before ++ (w ∷ after))).extent w.offset
    ≡ shared_in_block before w after
