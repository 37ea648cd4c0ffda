-- The writes that break a script of setup blocks with no port ticked twice, and why.
-- Assumes nothing.
use Rattle.std.specs.Prelude.{◌≡◌, ℕ, ◌<◌, Bool, true, false, cond, not, ◌&&◌, List, ◌∷◌, ◌++◌, Option, None, Some}
use Rattle.origins.specs.declared.NumberedWrite.{NumberedWrite}
use Rattle.ordering.specs.Kinds.{kind, is_selection, is_port_register, any_write}
use Rattle.ordering.specs.Ticks.{ticks_port, last_ticking, tick_of}
use Rattle.ordering.specs.Orders.{order_of, port_twice_now, before_selection_now}
use Rattle.ordering.specs.Inside.{shared_in_block}

-- `port-twice`: "a write to 0x4C ticks a port that an earlier one ticked: the latest such line and this one, one
-- finding a port". Of the writes before it the latest such one.
unfoldable pub port_twice : ℕ → List NumberedWrite → NumberedWrite → Option ℕ
port_twice port before w = cond (ticks_port port w) (tick_of (last_ticking port before)) None

abbrev pub PortTwiceExact : Type 0
PortTwiceExact =
    (port : ℕ) → port < 4 → (before : List NumberedWrite) (w : NumberedWrite)
    → port_twice_now (order_of before) w port ≡ port_twice port before w

-- "no selection yet": a per-port register is written, and no write before is a selection
unfoldable pub before_selection : List NumberedWrite → NumberedWrite → Bool
before_selection before w = is_port_register (kind w) && not (any_write is_selection before)

abbrev pub BeforeSelectionExact : Type 0
BeforeSelectionExact =
    (before : List NumberedWrite) (w : NumberedWrite)
    → before_selection_now (order_of before) w.offset ≡ before_selection before w

-- why a write breaks it
pub data Reason (before : List NumberedWrite) (w : NumberedWrite) (after : List NumberedWrite) : Type 0 where
  twice : (port number : ℕ) → port < 4 → port_twice port before w ≡ Some number → Reason before w after
  shared_inside : shared_in_block before w after ≡ true → Reason before w after
  unselected : before_selection before w ≡ true → Reason before w after

pub record BreakingWrite (ws : List NumberedWrite) : Type 0 where
  pub before : List NumberedWrite
  pub write : NumberedWrite
  pub after : List NumberedWrite
  pub parts : ws ≡ before ++ (write ∷ after)
  pub reason : Reason before write after

-- where the blocks may not be run in any order there is such a write, and where they may there is none
pub record BreakingWritesExplain (ws : List NumberedWrite) : Type 0 where
  pub only : (order_of ws).any_order ≡ false → BreakingWrite ws
  pub every : BreakingWrite ws → (order_of ws).any_order ≡ false

abbrev pub BreakingWritesExact : Type 0
BreakingWritesExact = (ws : List NumberedWrite) → BreakingWritesExplain ws
