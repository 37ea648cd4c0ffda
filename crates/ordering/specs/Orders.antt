-- How the code goes through the writes of a script. What it decides: `Layouts` and `BreakingWrites`.
-- Assumes nothing.
use Rattle.std.specs.Prelude.{ℕ, Bool, true, false, cond, not, ◌&&◌, List, [], ◌∷◌, Option, None}
use Rattle.origins.specs.declared.NumberedWrite.{NumberedWrite}
use Rattle.ordering.specs.declared.kinds.WriteKind.{WriteKind}
use Rattle.ordering.specs.declared.kinds.WriteKind.TheVariants.{NotFollowed, Selection}
use Rattle.ordering.specs.declared.kinds.WriteKind.TheVariants.{PortRegister, SharedRegister}
use Rattle.ordering.specs.declared.ticks.Ticks.{Ticks}
use Rattle.ordering.specs.declared.Phase.{Phase}
use Rattle.ordering.specs.declared.Phase.TheVariants.{BeforeBlocks, InBlock, AfterShared}
use Rattle.ordering.specs.declared.Order.{Order}
use Rattle.ordering.specs.Kinds.{kind_of, kind, is_port_register}
use Rattle.ordering.specs.Ticks.{ticks_port, no_ticks, last_tick, with_ticks, any_again}

-- where the script is after a write
abbrev pub phase_after : WriteKind → Phase → Phase
phase_after NotFollowed phase = phase
phase_after Selection phase = InBlock
phase_after PortRegister BeforeBlocks = BeforeBlocks
phase_after PortRegister InBlock = InBlock
phase_after PortRegister AfterShared = InBlock
phase_after SharedRegister BeforeBlocks = BeforeBlocks
phase_after SharedRegister InBlock = AfterShared
phase_after SharedRegister AfterShared = AfterShared

-- the write may stand there: a selection ticks no port again, and neither it nor a per-port write follows a shared one
-- that follows a block; a per-port write has a selection before it
abbrev pub fits : WriteKind → Phase → Ticks → ℕ → Bool
fits NotFollowed phase ticks value = true
fits Selection BeforeBlocks ticks value = not (any_again ticks value)
fits Selection InBlock ticks value = not (any_again ticks value)
fits Selection AfterShared ticks value = false
fits PortRegister BeforeBlocks ticks value = false
fits PortRegister InBlock ticks value = true
fits PortRegister AfterShared ticks value = false
fits SharedRegister phase ticks value = true

abbrev pub ticks_after : WriteKind → Ticks → ℕ → ℕ → Ticks
ticks_after NotFollowed ticks number value = ticks
ticks_after Selection ticks number value = with_ticks ticks number value
ticks_after PortRegister ticks number value = ticks
ticks_after SharedRegister ticks number value = ticks

-- one write more, by its kind
abbrev pub order_by : WriteKind → Order → ℕ → ℕ → Order
order_by kind order number value =
    record {
      any_order = order.any_order && fits kind order.phase order.ticks value;
      phase = phase_after kind order.phase;
      ticks = ticks_after kind order.ticks number value;
    }

unfoldable pub order_step : Order → NumberedWrite → Order
order_step order w = order_by (kind w) order w.number w.value

unfoldable pub first_order : Order
first_order = record { any_order = true; phase = BeforeBlocks; ticks = no_ticks }

-- one write after another
unfoldable pub order_after : Order → List NumberedWrite → Order
order_after order [] = order
order_after order (w ∷ ws) = order_after (order_step order w) ws

abbrev pub order_of : List NumberedWrite → Order
order_of ws = order_after first_order ws

-- of a write that comes next: the last selection that ticked the port, where the write ticks it again
unfoldable pub port_twice_now : Order → NumberedWrite → ℕ → Option ℕ
port_twice_now order w port = cond (ticks_port port w) (last_tick order.ticks port) None

abbrev pub is_before_blocks : Phase → Bool
is_before_blocks BeforeBlocks = true
is_before_blocks InBlock = false
is_before_blocks AfterShared = false

-- of a write that comes next: it goes to a per-port register, and there was no selection yet
unfoldable pub before_selection_now : Order → ℕ → Bool
before_selection_now order offset = is_port_register (kind_of offset) && is_before_blocks order.phase
