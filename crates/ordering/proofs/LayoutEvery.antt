-- Of a script that is shared writes, setup blocks with no port ticked twice, and shared writes, the code decides that
-- its blocks may be run in any order.
-- Assumes nothing.
use Rattle.std.proofs.Common.{◌≡◌, ℕ, ◌<◌, ◌≤◌, Bool, true, false, cond, ◌&&◌, List, [], ◌∷◌, ◌++◌, length, sym, refl, ap, ◌∙◌, append_assoc, arith}
use mathlib.Core.List.{Memᴰ}
use Rattle.laws.specs.Bits.{bit}
use Rattle.registers.specs.Bursts.{AllPerPort}
use Rattle.setup.specs.SetupBlocks.{Block, IsSetupBlock, selecting}
use Rattle.origins.specs.declared.NumberedWrite.{NumberedWrite}
use Rattle.origins.specs.NumberedWrites.{unnumbered_writes}
use Rattle.ordering.specs.declared.kinds.WriteKind.{WriteKind}
use Rattle.ordering.specs.declared.kinds.WriteKind.TheVariants.{Selection, PortRegister, SharedRegister}
use Rattle.std.specs.Prelude.{Option, None, Some}
use Rattle.ordering.specs.declared.ticks.Ticks.{Ticks}
use Rattle.ordering.specs.declared.Phase.{Phase}
use Rattle.ordering.specs.declared.Phase.TheVariants.{BeforeBlocks, InBlock}
use Rattle.ordering.specs.declared.Order.{Order}
use Rattle.ordering.specs.Kinds.{kind_of, kind, followed}
use Rattle.ordering.specs.Ticks.{was_ticked, no_ticks, last_tick, with_ticks, ticks_again, any_again}
use Rattle.ordering.specs.Orders.{phase_after, order_by, order_step, first_order, order_after, order_of}
use Rattle.ordering.specs.Layouts.{block_of, blocks_of, joined_blocks, AllShared, followed_each, Layout}
use Rattle.ordering.specs.Layouts.{AnyOrderExact}
use Rattle.ordering.proofs.KindLaws.{selection_kind, paged_kind_lem}
use Rattle.ordering.proofs.TickLaws.{all-length, all-ticked, none_length, none_ticked, again_none, any_by}
use Rattle.ordering.proofs.OrderLaws.{order_at, followed_order}
use Rattle.ordering.proofs.BlockLaws.{block_starts, block_rest, block_selects, no_block}
use Rattle.ordering.proofs.FollowedLaws.{followed_parts}
use Rattle.ordering.proofs.LayoutOnly.{room, layout_only}

-- a step, by the kind of the write
step_by : (order : Order) (w : NumberedWrite) (k : WriteKind) → kind w ≡ k
    → order_step order w ≡ order_by k order w.number w.value
unfolding order_step
step_by order w k e = rw e

-- shared writes at the start change nothing, and at the end they do not change the decision
shared_start : (ticks : Ticks) (a rest : List NumberedWrite) → AllShared a
    → order_after (order_at true BeforeBlocks ticks) (a ++ rest) ≡ order_after (order_at true BeforeBlocks ticks) rest
unfolding order_after
shared_start ticks [] rest s = refl
shared_start ticks (w ∷ a) rest s =
    ap (λ (o : Order). order_after o (a ++ rest)) (step_by (order_at true BeforeBlocks ticks) w SharedRegister s.0)
    ∙ shared_start ticks a rest s.1

shared_end : (phase : Phase) (ticks : Ticks) (a : List NumberedWrite) → AllShared a
    → (order_after (order_at true phase ticks) a).any_order ≡ true
unfolding order_after
shared_end phase ticks [] s = refl
shared_end phase ticks (w ∷ a) s =
    ap (λ (o : Order). (order_after o a).any_order) (step_by (order_at true phase ticks) w SharedRegister s.0)
    ∙ shared_end (phase_after SharedRegister phase) ticks a s.1

-- per-port writes in a block change nothing
lead_stays : (ticks : Ticks) (a rest : List NumberedWrite) → AllPerPort (unnumbered_writes a)
    → order_after (order_at true InBlock ticks) (a ++ rest) ≡ order_after (order_at true InBlock ticks) rest
unfolding order_after unnumbered_writes
lead_stays ticks [] rest p = refl
lead_stays ticks (w ∷ a) rest p =
    ap (λ (o : Order). order_after o (a ++ rest))
    (step_by (order_at true InBlock ticks) w PortRegister (paged_kind_lem w.offset p.0))
    ∙ lead_stays ticks a rest p.1

-- before the first block or in one
abbrev phase_of : Bool → Phase
phase_of true = InBlock
phase_of false = BeforeBlocks

module _ (end : List NumberedWrite) (end_shared : AllShared end) where
  abbrev Decided : Bool → Ticks → List NumberedWrite → Type 0
  Decided started ticks ws = (order_after (order_at true (phase_of started) ticks) ws).any_order ≡ true

  abbrev Disjoint : Ticks → List (List NumberedWrite) → Type 0
  Disjoint ticks blocks =
      (port : ℕ) → port < 4 → length (selecting port (blocks_of blocks)) ≤ room (last_tick ticks port)

  -- a block that ticks ports that were not ticked
  module _ (ticks : Ticks) (count : length ticks.ports ≡ 4) (w : NumberedWrite) (lead : List NumberedWrite)
      (blocks : List (List NumberedWrite)) (d : Disjoint ticks ((w ∷ lead) ∷ blocks)) where
    record Free (port : ℕ) : Type 0 where
      once : ticks_again ticks w.value port ≡ false
      left : length (selecting port (blocks_of blocks)) ≤ room (last_tick (with_ticks ticks w.number w.value) port)

    free : (port : ℕ) → port < 4 → Free port
    unfolding selecting
    free port h =
        let r = go (bit port w.value) (last_tick ticks port) (rw (block_selects w lead port) at (d port h)) in
        record {
          once = again_none ticks w.value port r.0;
          left = rw (all-ticked w.number w.value ticks count port h) r.1;
        }
      where
        go : (b : Bool) (t : Option ℕ)
            → length (cond b (block_of (w ∷ lead) ∷ selecting port (blocks_of blocks)) (selecting port (blocks_of blocks)))
            ≤ room t
            → ((b && was_ticked t) ≡ false)
            × (length (selecting port (blocks_of blocks)) ≤ room (cond b (Some w.number) t))
        go true None l = (refl, omega arith)
        go true (Some number) l = absurd (omega arith)
        go false t l = (refl, l)

    none : any_again ticks w.value ≡ false
    none =
        any_by ticks w.value (λ port h. (free port h).once)

    fits_selection : (started : Bool)
        → order_by Selection (order_at true (phase_of started) ticks) w.number w.value
        ≡ order_at true InBlock (with_ticks ticks w.number w.value)
    fits_selection true = rw none
    fits_selection false = rw none

  all_blocks : (started : Bool) (ticks : Ticks) → length ticks.ports ≡ 4 → (blocks : List (List NumberedWrite))
      → ((block : Block) → Memᴰ block (blocks_of blocks) → IsSetupBlock block) → Disjoint ticks blocks
      → Decided started ticks (joined_blocks blocks ++ end)
  unfolding order_after
  all_blocks started ticks count [] formed d = shared_end (phase_of started) ticks end end_shared
  all_blocks started ticks count ([] ∷ blocks) formed d = absurd (no_block (formed _ (Memᴰ.head refl)))
  all_blocks started ticks count ((w ∷ lead) ∷ blocks) formed d =
      let k = formed _ (Memᴰ.head refl) in
      let next = with_ticks ticks w.number w.value in
      let is : kind w ≡ Selection = ap kind_of (block_starts w lead k) ∙ selection_kind in
      ap (λ (o : Order). (order_after o ((lead ++ joined_blocks blocks) ++ end)).any_order)
      (step_by (order_at true (phase_of started) ticks) w Selection is
      ∙ fits_selection ticks count w lead blocks d started)
      ∙ ap (λ (l : List NumberedWrite). (order_after (order_at true InBlock next) l).any_order)
      (append_assoc lead (joined_blocks blocks) end)
      ∙ ap (λ (o : Order). o.any_order) (lead_stays next lead (joined_blocks blocks ++ end) (block_rest w lead k))
      ∙ all_blocks true next (all-length w.number w.value ticks ∙ count) blocks
      (λ block m. formed block (Memᴰ.tail m)) (λ port h. (free ticks count w lead blocks d port h).left)

pub layout_every : (ws : List NumberedWrite) → Layout ws → (order_of ws).any_order ≡ true
unfolding first_order
layout_every ws layout =
    let start = followed layout.start in
    let blocks = followed_each layout.blocks in
    let end = followed layout.end in
    ap (λ (o : Order). o.any_order) (sym (followed_order first_order ws))
    ∙ ap (λ (l : List NumberedWrite). (order_after first_order l).any_order)
    (ap followed layout.parts ∙ followed_parts layout.start layout.blocks layout.end)
    ∙ ap (λ (o : Order). o.any_order) (shared_start no_ticks start (joined_blocks blocks ++ end) layout.start_shared)
    ∙ all_blocks end layout.end_shared false no_ticks none_length blocks layout.setup.formed
    (λ port h. rw (none_ticked port h) (layout.setup.disjoint port h))

pub any_order_exact : AnyOrderExact
any_order_exact ws = record { only = layout_only ws; every = layout_every ws }
