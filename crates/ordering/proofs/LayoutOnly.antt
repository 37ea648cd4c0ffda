-- A script whose blocks may be run in any order, as the code decides, is shared writes, setup blocks with no port
-- ticked twice, and shared writes.
-- Assumes nothing.
use Rattle.std.proofs.Common.{◌≡◌, ℕ, ◌<◌, ◌≤◌, Bool, true, false, cond, not, List, [], ◌∷◌, ◌++◌, length, sym, refl, ap, ◌∙◌, append_assoc, arith}
use mathlib.Core.List.Memᴰ
use mathlib.Core.List.{Memᴰ}
use Rattle.laws.specs.Bits.{bit}
use Rattle.laws.proofs.Absurd.{zero_not_one}
use Rattle.registers.specs.RegisterMap.{FPD3_PORT_SEL}
use Rattle.registers.specs.Bursts.{AllPerPort}
use Rattle.setup.specs.SetupBlocks.{Block, StartsWithSelection, IsSetupBlock, selecting}
use Rattle.origins.specs.declared.NumberedWrite.{NumberedWrite}
use Rattle.origins.specs.NumberedWrites.{unnumbered_writes}
use Rattle.ordering.specs.declared.kinds.WriteKind.{WriteKind}
use Rattle.ordering.specs.declared.kinds.WriteKind.TheVariants.{NotFollowed, Selection}
use Rattle.ordering.specs.declared.kinds.WriteKind.TheVariants.{PortRegister, SharedRegister}
use Rattle.std.specs.Prelude.{Option, None, Some}
use Rattle.ordering.specs.declared.ticks.Ticks.{Ticks}
use Rattle.ordering.specs.declared.Phase.TheVariants.{BeforeBlocks, InBlock, AfterShared}
use Rattle.ordering.specs.Kinds.{kind, is_followed, followed}
use Rattle.ordering.specs.Ticks.{was_ticked, no_ticks, last_tick, with_ticks, any_again}
use Rattle.ordering.specs.Orders.{order_by, order_step, first_order, order_after, order_of}
use Rattle.ordering.specs.Layouts.{block_of, blocks_of, joined_blocks, AllShared, followed_each, Layout}
use Rattle.ordering.proofs.KindLaws.{selection_offset, port_register_paged}
use Rattle.ordering.proofs.TickLaws.{all-length, all-ticked, none_length, none_ticked, none_again}
use Rattle.ordering.proofs.OrderLaws.{order_at, stays_broken}
use Rattle.ordering.proofs.BlockLaws.{setup_block, block_selects}
use Rattle.ordering.proofs.FollowedLaws.{followed_kept}

-- how many blocks more may tick a port
abbrev pub room : Option ℕ → ℕ
room None = 1
room (Some number) = 0

-- what follows a selection: the rest of its block, more blocks, which may tick what `ticks` leaves, and shared writes
record Rest (ticks : Ticks) (ws : List NumberedWrite) : Type 0 where
  lead : List NumberedWrite
  blocks : List (List NumberedWrite)
  end : List NumberedWrite
  parts : ws ≡ lead ++ (joined_blocks blocks ++ end)
  lead_paged : AllPerPort (unnumbered_writes (followed lead))
  selection_first : (block : List NumberedWrite) → Memᴰ block blocks → StartsWithSelection (unnumbered_writes block)
  formed : (block : Block) → Memᴰ block (blocks_of (followed_each blocks)) → IsSetupBlock block
  disjoint : (port : ℕ) → port < 4
      → length (selecting port (blocks_of (followed_each blocks))) ≤ room (last_tick ticks port)
  end_shared : AllShared (followed end)

unfoldable no_more : (ticks : Ticks) (end : List NumberedWrite) → AllShared (followed end) → Rest ticks end
unfolding followed unnumbered_writes selecting
no_more ticks end s =
    record {
      lead = [];
      blocks = [];
      end = end;
      parts = refl;
      lead_paged = tt;
      selection_first = λ block (m : Memᴰ block []). absurd (Memᴰ.not-nil m);
      formed = λ block (m : Memᴰ block []). absurd (Memᴰ.not-nil m);
      disjoint = λ port h. few (last_tick ticks port);
      end_shared = s;
    }
  where
    few : (t : Option ℕ) → 0 ≤ room t
    few None = omega arith
    few (Some number) = omega arith

-- after a shared write that follows a block only shared writes come
after_shared : (ticks : Ticks) (ws : List NumberedWrite)
    → (order_after (order_at true AfterShared ticks) ws).any_order ≡ true → AllShared (followed ws)
unfolding order_after order_step followed
after_shared ticks [] h = tt
after_shared ticks (w ∷ ws) h = go (kind w) refl h (after_shared ticks ws)
  where
    never : {A : Type 0} (next : Ticks) → (order_after (order_at false InBlock next) ws).any_order ≡ true → A
    never next q = let z = sym (stays_broken InBlock next ws) ∙ q in zero_not_one (cc)

    go : (k : WriteKind) → kind w ≡ k
        → (order_after (order_by k (order_at true AfterShared ticks) w.number w.value) ws).any_order ≡ true
        → ((order_after (order_at true AfterShared ticks) ws).any_order ≡ true → AllShared (followed ws))
        → AllShared (cond (is_followed k) (w ∷ followed ws) (followed ws))
    go NotFollowed e q rest = rest q
    go Selection e q rest = never _ q
    go PortRegister e q rest = never ticks q
    go SharedRegister e q rest = (e, rest q)

-- a selection that ticks no port again, in front of the rest
module _ (w : NumberedWrite) (e : kind w ≡ Selection) (ticks : Ticks) (count : length ticks.ports ≡ 4)
    (new : any_again ticks w.value ≡ false) (ws : List NumberedWrite)
    (r : Rest (with_ticks ticks w.number w.value) ws) where
  -- the block that the selection starts, of which the selection is followed
  first : followed (w ∷ r.lead) ≡ w ∷ followed r.lead
  first = followed_kept w r.lead (ap is_followed e)

  one_more : (port : ℕ) → port < 4
      → length (selecting port (block_of (followed (w ∷ r.lead)) ∷ blocks_of (followed_each r.blocks)))
      ≤ room (last_tick ticks port)
  unfolding selecting
  one_more port h =
      rw (first, block_selects w (followed r.lead) port)
      (go (bit port w.value) (last_tick ticks port) refl refl
      (rw (all-ticked w.number w.value ticks count port h) at (r.disjoint port h)))
    where
      later : List Block
      later = selecting port (blocks_of (followed_each r.blocks))

      go : (b : Bool) (t : Option ℕ) → bit port w.value ≡ b → last_tick ticks port ≡ t
          → length later ≤ room (cond b (Some w.number) t)
          → length (cond b (block_of (w ∷ followed r.lead) ∷ later) later) ≤ room t
      go true None eb et l = omega arith
      go true (Some number) eb et l =
          let z : was_ticked (last_tick ticks port) ≡ false = none_again ticks w.value new port h eb in
          let y : true ≡ false = ap was_ticked (sym et) ∙ z in
          zero_not_one (cc)
      go false t eb et l = l

  unfoldable selected : Rest ticks (w ∷ ws)
  unfolding followed unnumbered_writes
  selected =
      record {
        lead = [];
        blocks = (w ∷ r.lead) ∷ r.blocks;
        end = r.end;
        parts = ap (λ (l : List NumberedWrite). w ∷ l)
            (r.parts ∙ sym (append_assoc r.lead (joined_blocks r.blocks) r.end));
        lead_paged = tt;
        selection_first = starting;
        formed = member;
        disjoint = one_more;
        end_shared = r.end_shared;
      }
    where
      at : w.offset ≡ FPD3_PORT_SEL
      at = selection_offset w.offset e

      starting : (block : List NumberedWrite) → Memᴰ block ((w ∷ r.lead) ∷ r.blocks)
          → StartsWithSelection (unnumbered_writes block)
      starting block (Memᴰ.head q) = rw q at
      starting block (Memᴰ.tail m) = r.selection_first block m

      member : (block : Block)
          → Memᴰ block (block_of (followed (w ∷ r.lead)) ∷ blocks_of (followed_each r.blocks))
          → IsSetupBlock block
      member block (Memᴰ.head q) = rw (q, first) (setup_block w (followed r.lead) at r.lead_paged)
      member block (Memᴰ.tail m) = r.formed block m

-- a selection's step, where the decision is yes in the end
select_on : (w : NumberedWrite) (ticks next : Ticks) (ws : List NumberedWrite)
    → (order_after (order_at (not (any_again ticks w.value)) InBlock next) ws).any_order ≡ true
    → (any_again ticks w.value ≡ false) × ((order_after (order_at true InBlock next) ws).any_order ≡ true)
select_on w ticks next ws h = go (any_again ticks w.value) refl h
  where
    go : (b : Bool) → any_again ticks w.value ≡ b → (order_after (order_at (not b) InBlock next) ws).any_order ≡ true
        → (any_again ticks w.value ≡ false) × ((order_after (order_at true InBlock next) ws).any_order ≡ true)
    go true e q = let z = sym (stays_broken InBlock next ws) ∙ q in zero_not_one (cc)
    go false e q = (e, q)

-- in a block
in_block : (ticks : Ticks) → length ticks.ports ≡ 4 → (ws : List NumberedWrite)
    → (order_after (order_at true InBlock ticks) ws).any_order ≡ true → Rest ticks ws
unfolding order_after order_step followed unnumbered_writes
in_block ticks count [] h = no_more ticks [] tt
in_block ticks count (w ∷ ws) h = go (kind w) refl h (λ next n. in_block next n ws)
  where
    inside : (r : Rest ticks ws) → AllPerPort (unnumbered_writes (followed (w ∷ r.lead))) → Rest ticks (w ∷ ws)
    inside r paged =
        record {
          lead = w ∷ r.lead;
          blocks = r.blocks;
          end = r.end;
          parts = ap (λ (l : List NumberedWrite). w ∷ l) r.parts;
          lead_paged = paged;
          selection_first = r.selection_first;
          formed = r.formed;
          disjoint = r.disjoint;
          end_shared = r.end_shared;
        }

    go : (k : WriteKind) → kind w ≡ k
        → (order_after (order_by k (order_at true InBlock ticks) w.number w.value) ws).any_order ≡ true
        → ((next : Ticks) → length next.ports ≡ 4 → (order_after (order_at true InBlock next) ws).any_order ≡ true
        → Rest next ws)
        → Rest ticks (w ∷ ws)
    go NotFollowed e q rest = let r = rest ticks count q in inside r (rw e r.lead_paged)
    go Selection e q rest =
        let next = with_ticks ticks w.number w.value in
        let s = select_on w ticks next ws q in
        selected w e ticks count s.0 ws (rest next (all-length w.number w.value ticks ∙ count) s.1)
    go PortRegister e q rest =
        let r = rest ticks count q in
        inside r (rw e (port_register_paged w.offset e, r.lead_paged))
    go SharedRegister e q rest = no_more ticks (w ∷ ws) (rw e (e, after_shared ticks ws q))

-- before the first selection: shared writes, and then blocks
record Whole (ws : List NumberedWrite) : Type 0 where
  start : List NumberedWrite
  behind : List NumberedWrite
  parts : ws ≡ start ++ behind
  start_shared : AllShared (followed start)
  rest : Rest no_ticks behind
  no_lead : rest.lead ≡ []

before_blocks : (ws : List NumberedWrite) → (order_after (order_at true BeforeBlocks no_ticks) ws).any_order ≡ true
    → Whole ws
unfolding order_after order_step followed no_more selected
before_blocks [] h =
    record {
      start = [];
      behind = [];
      parts = refl;
      start_shared = tt;
      rest = no_more no_ticks [] tt;
      no_lead = refl;
    }
before_blocks (w ∷ ws) h = go (kind w) refl h (before_blocks ws)
  where
    outside : (r : Whole ws) → AllShared (followed (w ∷ r.start)) → Whole (w ∷ ws)
    outside r shared =
        record {
          start = w ∷ r.start;
          behind = r.behind;
          parts = ap (λ (l : List NumberedWrite). w ∷ l) r.parts;
          start_shared = shared;
          rest = r.rest;
          no_lead = r.no_lead;
        }

    go : (k : WriteKind) → kind w ≡ k
        → (order_after (order_by k (order_at true BeforeBlocks no_ticks) w.number w.value) ws).any_order ≡ true
        → ((order_after (order_at true BeforeBlocks no_ticks) ws).any_order ≡ true → Whole ws)
        → Whole (w ∷ ws)
    go NotFollowed e q rest = let r = rest q in outside r (rw e r.start_shared)
    go Selection e q rest =
        let next = with_ticks no_ticks w.number w.value in
        let s = select_on w no_ticks next ws q in
        record {
          start = [];
          behind = w ∷ ws;
          parts = refl;
          start_shared = tt;
          rest = selected w e no_ticks none_length s.0 ws
              (in_block next (all-length w.number w.value no_ticks ∙ none_length) ws s.1);
          no_lead = refl;
        }
    go PortRegister e q rest = let z = sym (stays_broken BeforeBlocks no_ticks ws) ∙ q in zero_not_one (cc)
    go SharedRegister e q rest = let r = rest q in outside r (rw e (e, r.start_shared))

pub layout_only : (ws : List NumberedWrite) → (order_of ws).any_order ≡ true → Layout ws
unfolding first_order
layout_only ws h =
    let whole = before_blocks ws h in
    let r = whole.rest in
    record {
      start = whole.start;
      blocks = r.blocks;
      end = r.end;
      parts = whole.parts
          ∙ ap (λ (l : List NumberedWrite). whole.start ++ l)
          (r.parts ∙ ap (λ (l : List NumberedWrite). l ++ (joined_blocks r.blocks ++ r.end)) whole.no_lead);
      start_shared = whole.start_shared;
      selection_first = r.selection_first;
      setup = record {
        formed = r.formed;
        disjoint = λ port hp. rw (none_ticked port hp) at (r.disjoint port hp);
      };
      end_shared = r.end_shared;
    }
