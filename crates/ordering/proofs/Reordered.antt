-- A script with its blocks in any other order ends alike from every start.
-- Assumes nothing.
use Rattle.std.proofs.Common.{◌≡◌, ℕ, Bool, true, false, eqb, ltb, List, [], ◌∷◌, ◌++◌, length, get_or, set, sym, refl, ap, ◌∙◌, length-set, get_or-set_other, get_or-set_same, ltb-false, ltb-true, eqb-true}
use mathlib.Core.List.{Permᴰ}
use borrow.Author.Tests.{eqb-false}
use lib.Seq.{set_out}
use Rattle.laws.specs.MaskedWrites.{masked}
use Rattle.registers.specs.declared.RegisterFile.{RegisterFile}
use Rattle.registers.specs.declared.PageAccess.TheVariants.{Selection as BySelection}
use Rattle.registers.specs.RegisterMap.{mask_of, FPD3_PORT_SEL}
use Rattle.registers.specs.RegisterFiles.{shared_at, write_shared}
use Rattle.registers.specs.Bursts.{RegisterWrite, write_each}
use Rattle.registers.proofs.RegisterFiles.{write_unpaged}
use Rattle.registers.proofs.Bursts.{writes_append}
use Rattle.hub.specs.declared.Hub.{Hub}
use Rattle.hub.specs.Hubs.{ArrayLengths, with_registers, hub_burst}
use Rattle.setup.specs.SetupBlocks.{run_block, run_blocks, SetupBlocks}
use Rattle.setup.proofs.Runs.{block_registers, all_writes, blocks_registers, after_blocks_lem}
use Rattle.setup.proofs.Selecting.{reordered}
use Rattle.setup.proofs.Order.{alike, demand_3}
use Rattle.origins.specs.declared.NumberedWrite.{NumberedWrite}
use Rattle.origins.specs.NumberedWrites.{unnumbered_writes}
use Rattle.origins.specs.Origins.{after_each, FileOfBytes}
use Rattle.origins.proofs.NumberedWrites.{unnumbered_append}
use Rattle.ordering.specs.declared.kinds.WriteKind.TheVariants.{SharedRegister}
use Rattle.ordering.specs.Kinds.{kind, followed}
use Rattle.ordering.specs.Layouts.{block_of, blocks_of, joined_blocks, AllShared, followed_each, run_writes}
use Rattle.ordering.specs.Layouts.{AnyOrderHolds}
use Rattle.ordering.proofs.KindLaws.{shared_unpaged}
use Rattle.ordering.proofs.BlockLaws.{block_writes_lem}
use Rattle.ordering.proofs.FollowedLaws.{followed_parts}
use Rattle.ordering.proofs.NotFollowed.{followed_writes}

-- writes after other writes
after_append : (file : RegisterFile) (a b : List NumberedWrite)
    → after_each file (a ++ b) ≡ after_each (after_each file a) b
after_append file a b =
    rw (unnumbered_append a b) (writes_append BySelection file (unnumbered_writes a) (unnumbered_writes b))

-- writes change the registers alone, and those of a block or of blocks are the same writes
run_block_lem : (hub : Hub) (ws : List NumberedWrite) → run_writes hub ws ≡ run_block hub (block_of ws)
unfolding run_writes run_block
run_block_lem hub [] = refl
run_block_lem hub (w ∷ ws) = run_block_lem (hub_burst hub w.offset (w.value ∷ [])) ws

pub run_registers : (hub : Hub) (ws : List NumberedWrite)
    → run_writes hub ws ≡ with_registers hub (after_each hub.registers ws)
run_registers hub ws =
    run_block_lem hub ws ∙ block_registers hub (block_of ws)
    ∙ ap (λ (l : List RegisterWrite). with_registers hub (write_each BySelection hub.registers l)) (block_writes_lem ws)

-- so a run is that of its writes without their numbers
pub same_run : (hub : Hub) (a b : List NumberedWrite) → unnumbered_writes a ≡ unnumbered_writes b
    → run_writes hub a ≡ run_writes hub b
same_run hub a b e =
    run_registers hub a
    ∙ ap (λ (l : List RegisterWrite). with_registers hub (write_each BySelection hub.registers l)) e
    ∙ sym (run_registers hub b)

all-writes : (blocks : List (List NumberedWrite)) → all_writes (blocks_of blocks) ≡ unnumbered_writes (joined_blocks blocks)
unfolding all_writes unnumbered_writes
all-writes [] = refl
all-writes (ws ∷ blocks) = rw (block_writes_lem ws, all-writes blocks, unnumbered_append ws (joined_blocks blocks))

run_blocks_lem : (hub : Hub) (blocks : List (List NumberedWrite))
    → run_blocks hub (blocks_of blocks) ≡ with_registers hub (after_each hub.registers (joined_blocks blocks))
run_blocks_lem hub blocks =
    blocks_registers hub (blocks_of blocks)
    ∙ ap (λ (l : List RegisterWrite). with_registers hub (write_each BySelection hub.registers l)) (all-writes blocks)

same_order : {a b : List (List NumberedWrite)} → Permᴰ a b → Permᴰ (blocks_of a) (blocks_of b)
same_order Permᴰ.nil = Permᴰ.nil
same_order (Permᴰ.cons e d) = Permᴰ.cons (ap block_of e) (same_order d)
same_order (Permᴰ.swap e f) = Permᴰ.swap (ap block_of e) (ap block_of f)
same_order (Permᴰ.trans d₁ d₂) = Permᴰ.trans (same_order d₁) (same_order d₂)

followed_same_order : {a b : List (List NumberedWrite)} → Permᴰ a b
    → Permᴰ (followed_each a) (followed_each b)
followed_same_order Permᴰ.nil = Permᴰ.nil
followed_same_order (Permᴰ.cons e d) = Permᴰ.cons (ap followed e) (followed_same_order d)
followed_same_order (Permᴰ.swap e f) = Permᴰ.swap (ap followed e) (ap followed f)
followed_same_order (Permᴰ.trans d₁ d₂) = Permᴰ.trans (followed_same_order d₁) (followed_same_order d₂)

-- a shared write, before other writes
after_shared : (file : RegisterFile) (w : NumberedWrite) (ws : List NumberedWrite) → kind w ≡ SharedRegister
    → after_each file (w ∷ ws) ≡ after_each (write_shared file w.offset w.value) ws
unfolding write_each unnumbered_writes
after_shared file w ws e =
    ap (λ (f : RegisterFile). after_each f ws)
    (write_unpaged BySelection file w.offset w.value (shared_unpaged w.offset e).0)

-- shared writes at the start keep the arrays' lengths
shared_lengths : (file : RegisterFile) (ws : List NumberedWrite) → AllShared ws
    → (length (after_each file ws).shared ≡ length file.shared)
    × (length (after_each file ws).pages ≡ length file.pages)
unfolding write_each write_shared unnumbered_writes
shared_lengths file [] s = (refl, refl)
shared_lengths file (w ∷ ws) s =
    let next = write_shared file w.offset w.value in
    let r = shared_lengths next ws s.1 in
    let value = masked (mask_of w.offset) (shared_at file w.offset) w.value in
    rw (after_shared file w ws s.0) (r.0 ∙ length-set file.shared w.offset value, r.1)

-- shared writes at the end, after registers that differ in the selection alone
record Same (a b : RegisterFile) : Type 0 where
  pages : a.pages ≡ b.pages
  count : length a.shared ≡ length b.shared
  shared : (offset : ℕ) → (offset ≡ FPD3_PORT_SEL → ⊥) → shared_at a offset ≡ shared_at b offset

module _ (a b : RegisterFile) (s : Same a b) (w : NumberedWrite) (ne : w.offset ≡ FPD3_PORT_SEL → ⊥) where
  abbrev value : RegisterFile → ℕ
  value file = masked (mask_of w.offset) (shared_at file w.offset) w.value

  same_value : value a ≡ value b
  same_value = ap (λ (old : ℕ). masked (mask_of w.offset) old w.value) (s.shared w.offset ne)

  same_shared : (offset : ℕ) → (offset ≡ FPD3_PORT_SEL → ⊥)
      → get_or (set a.shared w.offset (value a)) offset 0 ≡ get_or (set b.shared w.offset (value b)) offset 0
  same_shared offset other = go (eqb offset w.offset) (ltb w.offset (length a.shared)) refl refl
    where
      go : (i d : Bool) → eqb offset w.offset ≡ i → ltb w.offset (length a.shared) ≡ d
          → get_or (set a.shared w.offset (value a)) offset 0
          ≡ get_or (set b.shared w.offset (value b)) offset 0
      go true true i d =
          let inside = ltb-true w.offset (length a.shared) d in
          rw (eqb-true offset w.offset i)
          (get_or-set_same a.shared w.offset (value a) 0 inside ∙ same_value
          ∙ sym (get_or-set_same b.shared w.offset (value b) 0 (rw s.count at inside)))
      go true false i d =
          let past = ltb-false w.offset (length a.shared) d in
          rw (
            set_out a.shared w.offset (value a) past,
            set_out b.shared w.offset (value b) (rw s.count at past),
          ) (s.shared offset other)
      go false d i e =
          get_or-set_other a.shared w.offset offset (value a) 0 (eqb-false offset w.offset i)
          ∙ s.shared offset other
          ∙ sym (get_or-set_other b.shared w.offset offset (value b) 0 (eqb-false offset w.offset i))

  same_step : Same (write_shared a w.offset w.value) (write_shared b w.offset w.value)
  unfolding write_shared
  same_step =
      record {
        pages = s.pages;
        count = length-set a.shared w.offset (value a) ∙ s.count
            ∙ sym (length-set b.shared w.offset (value b));
        shared = same_shared;
      }

same_after : (a b : RegisterFile) → Same a b → (ws : List NumberedWrite) → AllShared ws
    → Same (after_each a ws) (after_each b ws)
unfolding write_each unnumbered_writes
same_after a b s [] h = s
same_after a b s (w ∷ ws) h =
    let next = same_step a b s w (shared_unpaged w.offset h.0).1 in
    rw (after_shared a w ws h.0, after_shared b w ws h.0) (same_after (write_shared a w.offset w.value) _ next ws h.1)

-- blocks in two orders, from the same registers
module _ (hub : Hub) (lengths : ArrayLengths hub) (blocks other : List (List NumberedWrite))
    (k : SetupBlocks (blocks_of blocks)) (d : Permᴰ blocks other) where
  same_blocks : Same (after_each hub.registers (joined_blocks blocks))
      (after_each hub.registers (joined_blocks other))
  same_blocks =
      let ends = (demand_3 hub lengths (blocks_of blocks) (blocks_of other) k (same_order d)).0 in
      let ended = rw (run_blocks_lem hub blocks, run_blocks_lem hub other) at ends in
      let l = reordered (same_order d) k in
      let p = after_blocks_lem hub.registers lengths.shared lengths.pages (blocks_of blocks) k.formed in
      let q = after_blocks_lem hub.registers lengths.shared lengths.pages (blocks_of other) l.formed in
      let cp = rw (all-writes blocks) at p.shared_count in
      let cq = rw (all-writes other) at q.shared_count in
      record { pages = ended.pages; count = cp ∙ sym cq; shared = ended.shared }

-- shared writes, blocks in two orders, and shared writes
module _ (hub : Hub) (lengths : ArrayLengths hub) (start : List NumberedWrite) (start_shared : AllShared start)
    (blocks other : List (List NumberedWrite)) (k : SetupBlocks (blocks_of blocks)) (d : Permᴰ blocks other)
    (end : List NumberedWrite) (end_shared : AllShared end) where
  same_parts : Same (after_each hub.registers (start ++ (joined_blocks blocks ++ end)))
      (after_each hub.registers (start ++ (joined_blocks other ++ end)))
  same_parts =
      let file = hub.registers in
      let first = after_each file start in
      let kept = shared_lengths file start start_shared in
      let started = with_registers hub first in
      let started_lengths : ArrayLengths started =
      record { shared = kept.0 ∙ lengths.shared; pages = kept.1 ∙ lengths.pages; frames = lengths.frames } in
      rw (
        after_append file start (joined_blocks blocks ++ end),
        after_append file start (joined_blocks other ++ end),
        after_append first (joined_blocks blocks) end,
        after_append first (joined_blocks other) end,
      )
      (same_after _ _ (same_blocks started started_lengths blocks other k d) end end_shared)

-- a run of three parts leaves the registers that the writes leave of them that are followed
run_parts : (hub : Hub) → FileOfBytes hub.registers
    → (start : List NumberedWrite) (blocks : List (List NumberedWrite)) (end : List NumberedWrite)
    → run_writes hub (start ++ (joined_blocks blocks ++ end))
    ≡ with_registers hub
    (after_each hub.registers (followed start ++ (joined_blocks (followed_each blocks) ++ followed end)))
run_parts hub of_bytes start blocks end =
    run_registers hub (start ++ (joined_blocks blocks ++ end))
    ∙ ap (with_registers hub)
    (followed_writes hub.registers of_bytes (start ++ (joined_blocks blocks ++ end))
    ∙ ap (after_each hub.registers) (followed_parts start blocks end))

pub any_order_holds : AnyOrderHolds
any_order_holds hub lengths of_bytes ws layout other d =
    let s = same_parts hub lengths (followed layout.start) layout.start_shared
    (followed_each layout.blocks) (followed_each other) layout.setup (followed_same_order d)
    (followed layout.end) layout.end_shared in
    rw (
      layout.parts,
      run_parts hub of_bytes layout.start layout.blocks layout.end,
      run_parts hub of_bytes layout.start other layout.end,
    )
    (alike hub _ _ s.pages s.shared)
