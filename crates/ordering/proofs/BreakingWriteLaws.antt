-- What the code says of a write is what the sentences say: the last selection that ticked a port, and whether there was
-- a selection yet.
-- Assumes nothing.
use Rattle.std.proofs.Common.{◌≡◌, ℕ, ◌<◌, Bool, true, false, cond, not, ◌&&◌, List, [], ◌∷◌, length, refl, ap, ◌∙◌}
use mathlib.Core.Option.{Option as Maybe, none, some}
use Rattle.laws.specs.Bits.{bit}
use Rattle.origins.specs.declared.NumberedWrite.{NumberedWrite}
use Rattle.origins.specs.Origins.{later_or}
use Rattle.ordering.specs.declared.kinds.WriteKind.{WriteKind}
use Rattle.ordering.specs.declared.kinds.WriteKind.TheVariants.{NotFollowed, Selection}
use Rattle.ordering.specs.declared.kinds.WriteKind.TheVariants.{PortRegister, SharedRegister}
use Rattle.std.specs.Prelude.{Option, None, Some}
use Rattle.ordering.specs.declared.ticks.Ticks.{Ticks}
use Rattle.ordering.specs.declared.Phase.{Phase}
use Rattle.ordering.specs.declared.Phase.TheVariants.{BeforeBlocks, InBlock, AfterShared}
use Rattle.ordering.specs.declared.Order.{Order}
use Rattle.ordering.specs.Kinds.{kind, is_selection, is_port_register, any_write}
use Rattle.ordering.specs.Ticks.{ticks_port, last_ticking, tick_of, last_tick}
use Rattle.ordering.specs.Orders.{phase_after, ticks_after, order_step, first_order, order_after, order_of}
use Rattle.ordering.specs.Orders.{port_twice_now, is_before_blocks, before_selection_now}
use Rattle.ordering.specs.BreakingWrites.{port_twice, PortTwiceExact, before_selection, BeforeSelectionExact}
use Rattle.ordering.proofs.TickLaws.{all-length, all-ticked, none_length, none_ticked}

-- the last tick of a port after writes, where `before` was the last before them
abbrev tick_after : Option ℕ → Maybe NumberedWrite → Option ℕ
tick_after before none = before
tick_after before (some w) = Some w.number

tick_first : (o : Maybe NumberedWrite) → tick_after None o ≡ tick_of o
tick_first none = refl
tick_first (some w) = refl

tick_choice : (before : Option ℕ) (b : Bool) (w : NumberedWrite) (later : Maybe NumberedWrite)
    → tick_after (cond b (Some w.number) before) later ≡ tick_after before (later_or later (cond b (some w) none))
tick_choice before true w none = refl
tick_choice before false w none = refl
tick_choice before b w (some u) = refl

module _ (k : WriteKind) (ticks : Ticks) (number value : ℕ) where
  after_length : length (ticks_after k ticks number value).ports ≡ length ticks.ports
  after_length = go k
    where
      go : (k : WriteKind) → length (ticks_after k ticks number value).ports ≡ length ticks.ports
      go NotFollowed = refl
      go Selection = all-length number value ticks
      go PortRegister = refl
      go SharedRegister = refl

  after_tick : length ticks.ports ≡ 4 → (port : ℕ) → port < 4
      → last_tick (ticks_after k ticks number value) port
      ≡ cond (is_selection k && bit port value) (Some number) (last_tick ticks port)
  after_tick count port h = go k
    where
      go : (k : WriteKind)
          → last_tick (ticks_after k ticks number value) port
          ≡ cond (is_selection k && bit port value) (Some number) (last_tick ticks port)
      go NotFollowed = refl
      go Selection = all-ticked number value ticks count port h
      go PortRegister = refl
      go SharedRegister = refl

module _ (port : ℕ) (h : port < 4) where
  ticks_after_lem : (order : Order) → length order.ticks.ports ≡ 4 → (ws : List NumberedWrite)
      → last_tick (order_after order ws).ticks port ≡ tick_after (last_tick order.ticks port) (last_ticking port ws)
  unfolding order_after order_step last_ticking
  ticks_after_lem order count [] = refl
  ticks_after_lem order count (w ∷ ws) =
      ticks_after_lem (order_step order w) (after_length (kind w) order.ticks w.number w.value ∙ count) ws
      ∙ ap (λ (t : Option ℕ). tick_after t (last_ticking port ws))
      (after_tick (kind w) order.ticks w.number w.value count port h)
      ∙ tick_choice (last_tick order.ticks port) (ticks_port port w) w (last_ticking port ws)

  pub ticks_exact : (ws : List NumberedWrite) → last_tick (order_of ws).ticks port ≡ tick_of (last_ticking port ws)
  unfolding first_order
  ticks_exact ws =
      ticks_after_lem first_order none_length ws
      ∙ ap (λ (t : Option ℕ). tick_after t (last_ticking port ws)) (none_ticked port h)
      ∙ tick_first (last_ticking port ws)

pub port_twice_exact : PortTwiceExact
unfolding port_twice_now port_twice
port_twice_exact port h before w =
    ap (λ (t : Option ℕ). cond (ticks_port port w) t None) (ticks_exact port h before)

-- whether there was a selection
phase_step : (k : WriteKind) (p : Phase) → is_before_blocks (phase_after k p) ≡ (is_before_blocks p && not (is_selection k))
phase_step NotFollowed BeforeBlocks = refl
phase_step NotFollowed InBlock = refl
phase_step NotFollowed AfterShared = refl
phase_step Selection BeforeBlocks = refl
phase_step Selection InBlock = refl
phase_step Selection AfterShared = refl
phase_step PortRegister BeforeBlocks = refl
phase_step PortRegister InBlock = refl
phase_step PortRegister AfterShared = refl
phase_step SharedRegister BeforeBlocks = refl
phase_step SharedRegister InBlock = refl
phase_step SharedRegister AfterShared = refl

phase_choice : (a s t : Bool) → ((a && not s) && not t) ≡ (a && not (cond s true t))
phase_choice true true t = refl
phase_choice true false t = refl
phase_choice false s t = refl

phase_after_lem : (order : Order) (ws : List NumberedWrite)
    → is_before_blocks (order_after order ws).phase ≡ (is_before_blocks order.phase && not (any_write is_selection ws))
unfolding order_after order_step any_write
phase_after_lem order [] = same (is_before_blocks order.phase)
  where
    same : (b : Bool) → b ≡ (b && true)
    same true = refl
    same false = refl
phase_after_lem order (w ∷ ws) =
    phase_after_lem (order_step order w) ws
    ∙ ap (λ (b : Bool). b && not (any_write is_selection ws)) (phase_step (kind w) order.phase)
    ∙ phase_choice (is_before_blocks order.phase) (is_selection (kind w)) (any_write is_selection ws)

pub phase_exact : (ws : List NumberedWrite) → is_before_blocks (order_of ws).phase ≡ not (any_write is_selection ws)
unfolding first_order
phase_exact ws = phase_after_lem first_order ws

pub before_selection_exact : BeforeSelectionExact
unfolding before_selection_now before_selection
before_selection_exact before w = ap (λ (b : Bool). is_port_register (kind w) && b) (phase_exact before)
