-- Where the blocks may not be run in any order a write breaks it, and a write that breaks it decides so.
-- Assumes nothing.
use Rattle.std.proofs.Common.{◌≡◌, ℕ, ◌<◌, Bool, true, false, cond, not, ◌&&◌, ◌⊎◌, List, [], ◌∷◌, ◌++◌, sym, refl, ap, ◌∙◌, inl, inr, append_assoc}
use mathlib.Core.Bool.{and-true, and-false}
use Rattle.laws.specs.Bits.{bit}
use Rattle.laws.proofs.Absurd.{zero_not_one}
use Rattle.laws.proofs.Bools.{both}
use Rattle.origins.specs.declared.NumberedWrite.{NumberedWrite}
use Rattle.ordering.specs.declared.kinds.WriteKind.{WriteKind}
use Rattle.ordering.specs.declared.kinds.WriteKind.TheVariants.{NotFollowed, Selection}
use Rattle.ordering.specs.declared.kinds.WriteKind.TheVariants.{PortRegister, SharedRegister}
use Rattle.std.specs.Prelude.{None, Some}
use Rattle.ordering.specs.declared.ticks.Ticks.{Ticks}
use Rattle.ordering.specs.declared.Phase.{Phase}
use Rattle.ordering.specs.declared.Phase.TheVariants.{BeforeBlocks, InBlock, AfterShared}
use Rattle.ordering.specs.declared.Order.{Order}
use Rattle.ordering.specs.Kinds.{kind, is_selection, is_port_register, is_shared, is_of_block, any_write}
use Rattle.ordering.specs.Ticks.{last_ticking, tick_of, was_ticked, any_again}
use Rattle.ordering.specs.Orders.{phase_after, fits, ticks_after, order_by, order_step, first_order, order_after}
use Rattle.ordering.specs.Orders.{order_of, is_before_blocks}
use Rattle.ordering.specs.Inside.{shared_in_block}
use Rattle.ordering.specs.BreakingWrites.{port_twice, before_selection, Reason, twice, shared_inside, unselected}
use Rattle.ordering.specs.BreakingWrites.{BreakingWrite, BreakingWritesExact}
use Rattle.ordering.proofs.TickLaws.{some_again, any-again}
use Rattle.ordering.proofs.OrderLaws.{order_at, order_append, stays_broken}
use Rattle.ordering.proofs.BreakingWriteLaws.{ticks_exact, phase_exact}

-- a write that does not fit decides
abbrev fits_now : Order → NumberedWrite → Bool
fits_now order w = fits (kind w) order.phase order.ticks w.value

broken_after : (order : Order) (w : NumberedWrite) (ws : List NumberedWrite) → fits_now order w ≡ false
    → (order_after (order_step order w) ws).any_order ≡ false
unfolding order_step
broken_after order w ws e =
    let phase = phase_after (kind w) order.phase in
    let ticks = ticks_after (kind w) order.ticks w.number w.value in
    ap (λ (b : Bool). (order_after (order_at b phase ticks) ws).any_order)
    (ap (λ (b : Bool). order.any_order && b) e ∙ and-false order.any_order)
    ∙ stays_broken phase ticks ws

-- the order after one write more
order_snoc : (past : List NumberedWrite) (w : NumberedWrite) → order_of (past ++ (w ∷ [])) ≡ order_step (order_of past) w
unfolding order_after
order_snoc past w = order_append first_order past (w ∷ [])

-- a write of a kind among others
any_hit : (test : WriteKind → Bool) (a : List NumberedWrite) (w : NumberedWrite) (b : List NumberedWrite)
    → test (kind w) ≡ true → any_write test (a ++ (w ∷ b)) ≡ true
unfolding any_write
any_hit test [] w b e = rw e
any_hit test (u ∷ a) w b e = go (test (kind u)) (any_hit test a w b e)
  where
    go : (c : Bool) → any_write test (a ++ (w ∷ b)) ≡ true → cond c true (any_write test (a ++ (w ∷ b))) ≡ true
    go true h = refl
    go false h = h

-- a shared write after the first selection, that no selection or per-port write follows yet
record Pending (past : List NumberedWrite) : Type 0 where
  before : List NumberedWrite
  write : NumberedWrite
  after : List NumberedWrite
  parts : past ≡ before ++ (write ∷ after)
  shared : kind write ≡ SharedRegister
  started : any_write is_selection before ≡ true

selected : (past : List NumberedWrite) → is_before_blocks (order_of past).phase ≡ false → any_write is_selection past ≡ true
selected past e = go (any_write is_selection past) (sym (phase_exact past) ∙ e)
  where
    go : (b : Bool) → not b ≡ false → b ≡ true
    go true q = refl
    go false q = zero_not_one (cc)

module _ (past : List NumberedWrite) (w : NumberedWrite) where
  longer : Pending past → Pending (past ++ (w ∷ []))
  longer p =
      record {
        before = p.before;
        write = p.write;
        after = p.after ++ (w ∷ []);
        parts = ap (λ (l : List NumberedWrite). l ++ (w ∷ [])) p.parts
            ∙ append_assoc p.before (p.write ∷ p.after) (w ∷ []);
        shared = p.shared;
        started = p.started;
      }

  pending_step : ((order_of past).phase ≡ AfterShared → Pending past)
      → phase_after (kind w) (order_of past).phase ≡ AfterShared → Pending (past ++ (w ∷ []))
  pending_step pending e = go (kind w) (order_of past).phase refl refl e
    where
      go : (k : WriteKind) (p : Phase) → kind w ≡ k → (order_of past).phase ≡ p → phase_after k p ≡ AfterShared
          → Pending (past ++ (w ∷ []))
      go NotFollowed p ek ep q = longer (pending (ep ∙ q))
      go Selection p ek ep q = zero_not_one (cc)
      go PortRegister BeforeBlocks ek ep q = zero_not_one (cc)
      go PortRegister InBlock ek ep q = zero_not_one (cc)
      go PortRegister AfterShared ek ep q = zero_not_one (cc)
      go SharedRegister BeforeBlocks ek ep q = zero_not_one (cc)
      go SharedRegister InBlock ek ep q =
          record {
            before = past;
            write = w;
            after = [];
            parts = refl;
            shared = ek;
            started = selected past (ap is_before_blocks ep);
          }
      go SharedRegister AfterShared ek ep q = longer (pending ep)

-- why a write does not fit
module _ (past : List NumberedWrite) (pending : (order_of past).phase ≡ AfterShared → Pending past)
    (w : NumberedWrite) (ws : List NumberedWrite) where
  here : Reason past w ws → BreakingWrite (past ++ (w ∷ ws))
  here r = record { before = past; write = w; after = ws; parts = refl; reason = r }

  inside : is_of_block (kind w) ≡ true → Pending past → BreakingWrite (past ++ (w ∷ ws))
  unfolding shared_in_block
  inside e p =
      record {
        before = p.before;
        write = p.write;
        after = p.after ++ (w ∷ ws);
        parts = ap (λ (l : List NumberedWrite). l ++ (w ∷ ws)) p.parts
            ∙ append_assoc p.before (p.write ∷ p.after) (w ∷ ws);
        reason = shared_inside (rw (p.shared, p.started, any_hit is_of_block p.after w ws e));
      }

  again : kind w ≡ Selection → not (any_again (order_of past).ticks w.value) ≡ false
      → BreakingWrite (past ++ (w ∷ ws))
  unfolding port_twice
  again ek q =
      let a = some_again (order_of past).ticks w.value (was (any_again (order_of past).ticks w.value) q) in
      here (twice a.port a.number a.small
      (rw (ek, a.ticked) (sym (ticks_exact a.port a.small past) ∙ a.earlier)))
    where
      was : (b : Bool) → not b ≡ false → b ≡ true
      was true e = refl
      was false e = zero_not_one (cc)

  first : kind w ≡ PortRegister → (order_of past).phase ≡ BeforeBlocks → BreakingWrite (past ++ (w ∷ ws))
  unfolding before_selection
  first ek ep = here (unselected (rw (ek, sym (phase_exact past) ∙ ap is_before_blocks ep)))

  misfit : fits_now (order_of past) w ≡ false → BreakingWrite (past ++ (w ∷ ws))
  misfit e = go (kind w) (order_of past).phase refl refl e
    where
      go : (k : WriteKind) (p : Phase) → kind w ≡ k → (order_of past).phase ≡ p
          → fits k p (order_of past).ticks w.value ≡ false → BreakingWrite (past ++ (w ∷ ws))
      go NotFollowed p ek ep q = zero_not_one (cc)
      go Selection BeforeBlocks ek ep q = again ek q
      go Selection InBlock ek ep q = again ek q
      go Selection AfterShared ek ep q = inside (ap is_of_block ek) (pending ep)
      go PortRegister BeforeBlocks ek ep q = first ek ep
      go PortRegister InBlock ek ep q = zero_not_one (cc)
      go PortRegister AfterShared ek ep q = inside (ap is_of_block ek) (pending ep)
      go SharedRegister p ek ep q = zero_not_one (cc)

find : (past : List NumberedWrite) → ((order_of past).phase ≡ AfterShared → Pending past)
    → (order_of past).any_order ≡ true → (ws : List NumberedWrite)
    → (order_after (order_of past) ws).any_order ≡ false → BreakingWrite (past ++ ws)
unfolding order_after order_step
find past pending so [] e = let z = sym so ∙ e in zero_not_one (cc)
find past pending so (w ∷ ws) e =
    go (fits_now (order_of past) w) refl
    (λ next decided rest. find (past ++ (w ∷ [])) next decided ws rest)
  where
    snoc : order_of (past ++ (w ∷ [])) ≡ order_step (order_of past) w
    snoc = order_snoc past w

    go : (b : Bool) → fits_now (order_of past) w ≡ b
        → (((order_of (past ++ (w ∷ []))).phase ≡ AfterShared → Pending (past ++ (w ∷ [])))
        → (order_of (past ++ (w ∷ []))).any_order ≡ true
        → (order_after (order_of (past ++ (w ∷ []))) ws).any_order ≡ false → BreakingWrite ((past ++ (w ∷ [])) ++ ws))
        → BreakingWrite (past ++ (w ∷ ws))
    go true f rest =
        rw (append_assoc past (w ∷ []) ws) at
        (rest (λ q. pending_step past w pending (sym (ap (λ (o : Order). o.phase) snoc) ∙ q))
        (ap (λ (o : Order). o.any_order) snoc
        ∙ ap (λ (b : Bool). (order_of past).any_order && b) f ∙ and-true (order_of past).any_order ∙ so)
        (ap (λ (o : Order). (order_after o ws).any_order) snoc ∙ e))
    go false f rest = misfit past pending w ws f

-- the other way: a write with a reason does not fit, or lets a later one not fit
after_shared : (decision : Bool) (ticks : Ticks) (ws : List NumberedWrite) → any_write is_of_block ws ≡ true
    → (order_after (order_at decision AfterShared ticks) ws).any_order ≡ false
unfolding order_after order_step any_write
after_shared decision ticks [] e = zero_not_one (cc)
after_shared decision ticks (w ∷ ws) e = go (kind w) refl e (λ next. after_shared next ticks ws)
  where
    misfit : kind w ≡ Selection ⊎ kind w ≡ PortRegister → fits_now (order_at decision AfterShared ticks) w ≡ false
    misfit (inl k) = ap (λ (k : WriteKind). fits k AfterShared ticks w.value) k
    misfit (inr k) = ap (λ (k : WriteKind). fits k AfterShared ticks w.value) k

    order : Order
    order = order_at decision AfterShared ticks

    go : (k : WriteKind) → kind w ≡ k → cond (is_of_block k) true (any_write is_of_block ws) ≡ true
        → ((next : Bool) → any_write is_of_block ws ≡ true
        → (order_after (order_at next AfterShared ticks) ws).any_order ≡ false)
        → (order_after (order_step (order_at decision AfterShared ticks) w) ws).any_order ≡ false
    go NotFollowed ek q rest =
        ap (λ (k : WriteKind). (order_after (order_by k order w.number w.value) ws).any_order) ek
        ∙ rest (decision && true) q
    go Selection ek q rest = broken_after order w ws (misfit (inl ek))
    go PortRegister ek q rest = broken_after order w ws (misfit (inr ek))
    go SharedRegister ek q rest =
        ap (λ (k : WriteKind). (order_after (order_by k order w.number w.value) ws).any_order) ek
        ∙ rest (decision && true) q

module _ (before : List NumberedWrite) (w : NumberedWrite) (after : List NumberedWrite) where
  -- a selection that ticks a port again fits nowhere
  twice_misfit : (port number : ℕ) → port < 4 → port_twice port before w ≡ Some number → fits_now (order_of before) w ≡ false
  unfolding port_twice
  twice_misfit port number h e = go (kind w) (bit port w.value) refl refl e
    where
      never : {A : Type 0} → None ≡ Some number → A
      never q = zero_not_one (cc)

      nowhere : (p : Phase) → any_again (order_of before).ticks w.value ≡ true
          → fits Selection p (order_of before).ticks w.value ≡ false
      nowhere BeforeBlocks a = rw a
      nowhere InBlock a = rw a
      nowhere AfterShared a = refl

      go : (k : WriteKind) (b : Bool) → kind w ≡ k → bit port w.value ≡ b
          → cond (is_selection k && b) (tick_of (last_ticking port before)) None ≡ Some number
          → fits_now (order_of before) w ≡ false
      go NotFollowed b ek eb q = never q
      go Selection true ek eb q =
          ap (λ (k : WriteKind). fits k (order_of before).phase (order_of before).ticks w.value) ek
          ∙ nowhere (order_of before).phase
          (any-again (order_of before).ticks w.value port h eb (ap was_ticked (ticks_exact port h before ∙ q)))
      go Selection false ek eb q = never q
      go PortRegister b ek eb q = never q
      go SharedRegister b ek eb q = never q

  -- a per-port write before the first selection does not fit
  unselected_misfit : before_selection before w ≡ true → fits_now (order_of before) w ≡ false
  unfolding before_selection
  unselected_misfit e =
      let b = both (is_port_register (kind w)) (not (any_write is_selection before)) e in
      go (kind w) (order_of before).phase refl refl b.0 (phase_exact before ∙ b.1)
    where
      go : (k : WriteKind) (p : Phase) → kind w ≡ k → (order_of before).phase ≡ p → is_port_register k ≡ true
          → is_before_blocks p ≡ true → fits k p (order_of before).ticks w.value ≡ false
      go PortRegister BeforeBlocks ek ep k p = refl
      go PortRegister InBlock ek ep k p = zero_not_one (cc)
      go PortRegister AfterShared ek ep k p = refl
      go NotFollowed q ek ep k p = zero_not_one (cc)
      go Selection q ek ep k p = zero_not_one (cc)
      go SharedRegister q ek ep k p = zero_not_one (cc)

  -- after a shared write inside the blocks a later write does not fit
  inside_broken : shared_in_block before w after ≡ true
      → (order_after (order_step (order_of before) w) after).any_order ≡ false
  unfolding shared_in_block order_step
  inside_broken e =
      let b = both (is_shared (kind w)) (any_write is_selection before && any_write is_of_block after) e in
      let d = both (any_write is_selection before) (any_write is_of_block after) b.1 in
      go (kind w) (order_of before).phase refl refl b.0 (phase_exact before ∙ ap not d.0) d.1
    where
      order : Order
      order = order_of before

      go : (k : WriteKind) (p : Phase) → kind w ≡ k → (order_of before).phase ≡ p → is_shared k ≡ true
          → is_before_blocks p ≡ false → any_write is_of_block after ≡ true
          → (order_after (order_step (order_of before) w) after).any_order ≡ false
      go SharedRegister BeforeBlocks ek ep k p later = zero_not_one (cc)
      go SharedRegister InBlock ek ep k p later =
          rw (ek, ep) (after_shared (order.any_order && true) order.ticks after later)
      go SharedRegister AfterShared ek ep k p later =
          rw (ek, ep) (after_shared (order.any_order && true) order.ticks after later)
      go NotFollowed q ek ep k p later = zero_not_one (cc)
      go Selection q ek ep k p later = zero_not_one (cc)
      go PortRegister q ek ep k p later = zero_not_one (cc)

  reason_breaks : Reason before w after → (order_after (order_step (order_of before) w) after).any_order ≡ false
  reason_breaks (twice port number h e) = broken_after (order_of before) w after (twice_misfit port number h e)
  reason_breaks (shared_inside e) = inside_broken e
  reason_breaks (unselected e) = broken_after (order_of before) w after (unselected_misfit e)

  order_middle : order_of (before ++ (w ∷ after)) ≡ order_after (order_step (order_of before) w) after
  unfolding order_after
  order_middle = order_append first_order before (w ∷ after)

pub breaking_writes_exact : BreakingWritesExact
unfolding first_order order_after
breaking_writes_exact ws =
    record {
      only = λ e. find [] nothing refl ws e;
      every = λ f. ap (λ (l : List NumberedWrite). (order_of l).any_order) f.parts
          ∙ ap (λ (o : Order). o.any_order) (order_middle f.before f.write f.after)
          ∙ reason_breaks f.before f.write f.after f.reason;
    }
  where
    nothing : BeforeBlocks ≡ AfterShared → Pending []
    nothing q = zero_not_one (cc)
