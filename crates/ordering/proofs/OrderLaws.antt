-- Going through the writes of a script: some after others, those that are followed alone, and what stays.
-- Assumes nothing.
use Rattle.std.proofs.Common.{◌≡◌, Bool, false, cond, List, [], ◌∷◌, ◌++◌, sym, refl, ap, ◌∙◌}
use mathlib.Core.Bool.{and-true}
use Rattle.origins.specs.declared.NumberedWrite.{NumberedWrite}
use Rattle.ordering.specs.declared.kinds.WriteKind.{WriteKind}
use Rattle.ordering.specs.declared.kinds.WriteKind.TheVariants.{NotFollowed, Selection}
use Rattle.ordering.specs.declared.kinds.WriteKind.TheVariants.{PortRegister, SharedRegister}
use Rattle.ordering.specs.declared.ticks.Ticks.{Ticks}
use Rattle.ordering.specs.declared.Phase.{Phase}
use Rattle.ordering.specs.declared.Order.{Order}
use Rattle.ordering.specs.Kinds.{kind, is_followed, followed}
use Rattle.ordering.specs.Orders.{phase_after, ticks_after, order_by, order_step, order_after}

abbrev pub order_at : Bool → Phase → Ticks → Order
order_at decision phase ticks = record { any_order = decision; phase = phase; ticks = ticks }

pub order_append : (order : Order) (a b : List NumberedWrite)
    → order_after order (a ++ b) ≡ order_after (order_after order a) b
unfolding order_after
order_append order [] b = refl
order_append order (w ∷ a) b = order_append (order_step order w) a b

-- once it is decided that the blocks may not be run in any order, it stays so
pub stays_broken : (phase : Phase) (ticks : Ticks) (ws : List NumberedWrite)
    → (order_after (order_at false phase ticks) ws).any_order ≡ false
unfolding order_after order_step
stays_broken phase ticks [] = refl
stays_broken phase ticks (w ∷ ws) =
    stays_broken (phase_after (kind w) phase) (ticks_after (kind w) ticks w.number w.value) ws

-- a write that is not followed does nothing
pub followed_order : (order : Order) (ws : List NumberedWrite) → order_after order (followed ws) ≡ order_after order ws
unfolding order_after order_step followed
followed_order order [] = refl
followed_order order (w ∷ ws) = go (kind w) refl (λ next. followed_order next ws)
  where
    unchanged : kind w ≡ NotFollowed → order_step order w ≡ order
    unchanged e =
        ap (λ (k : WriteKind). order_by k order w.number w.value) e
        ∙ ap (λ (b : Bool). order_at b order.phase order.ticks) (and-true order.any_order)

    go : (k : WriteKind) → kind w ≡ k → ((next : Order) → order_after next (followed ws) ≡ order_after next ws)
        → order_after order (cond (is_followed k) (w ∷ followed ws) (followed ws)) ≡ order_after (order_step order w) ws
    go NotFollowed e rest = rest order ∙ ap (λ (o : Order). order_after o ws) (sym (unchanged e))
    go Selection e rest = rest (order_step order w)
    go PortRegister e rest = rest (order_step order w)
    go SharedRegister e rest = rest (order_step order w)
