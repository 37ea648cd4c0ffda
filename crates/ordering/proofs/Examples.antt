-- The examples, computed.
-- Assumes nothing.
use Rattle.std.proofs.Common.{ℕ, Bool, leb, List, [], ◌∷◌, length, refl, leb→le}
use mathlib.Core.List.Permᴰ
use mathlib.Core.List.{Memᴰ}
use Rattle.laws.specs.Bits.{bit}
use Rattle.laws.proofs.Tables.{all_below, below_at}
use Rattle.registers.specs.RegisterMap.{rows, row_in, mask_of, per_port}
use Rattle.registers.specs.Bursts.{burst_writes}
use Rattle.setup.specs.SetupBlocks.{Block, StartsWithSelection, block_writes, IsSetupBlock, selection_written}
use Rattle.setup.specs.SetupBlocks.{selects, selecting}
use Rattle.origins.specs.declared.NumberedWrite.{NumberedWrite}
use Rattle.origins.specs.NumberedWrites.{unnumbered_writes}
use Rattle.ordering.specs.Kinds.{kind_of, followed, any_write}
use Rattle.ordering.specs.Ticks.{last_ticking, no_ticks, last_tick, with_tick, with_ticks, ticks_again, any_again}
use Rattle.ordering.specs.Orders.{order_step, first_order, order_after}
use Rattle.ordering.specs.Layouts.{blocks_of, followed_each, Layout}
use Rattle.ordering.specs.Inside.{shared_in_block}
use Rattle.ordering.specs.BreakingWrites.{port_twice, before_selection}
use Rattle.ordering.specs.Examples.{write, pass_through_writes03, channel1, forwarding, script}
use Rattle.ordering.specs.Examples.{MayBeReordered, KeptInBlock, SharedBetween, TickedTwice, NotSelected}
use Rattle.ordering.proofs.Reordered.{any_order_holds}

pub may_be_reordered : MayBeReordered
unfolding order_after order_step first_order kind_of mask_of per_port row_in rows bit
    no_ticks last_tick with_tick with_ticks ticks_again any_again any_write shared_in_block
may_be_reordered = record { decided = refl; not_inside = refl }

-- its layout: the two blocks as they stand in the script
starting : (block : List NumberedWrite) → Memᴰ block (pass_through_writes03 ∷ channel1 ∷ [])
    → StartsWithSelection (unnumbered_writes block)
unfolding unnumbered_writes
starting block (Memᴰ.head e) = rw e
starting block (Memᴰ.tail (Memᴰ.head e)) = rw e
starting block (Memᴰ.tail (Memᴰ.tail m)) = elim m [ ]

setup_blocks : List Block
setup_blocks = blocks_of (followed_each (pass_through_writes03 ∷ channel1 ∷ []))

formed : (block : Block) → Memᴰ block setup_blocks → IsSetupBlock block
unfolding setup_blocks followed block_writes burst_writes kind_of mask_of per_port row_in rows
formed block (Memᴰ.head e) = rw e (record { starts = refl; rest = (refl, tt) })
formed block (Memᴰ.tail (Memᴰ.head e)) = rw e (record { starts = refl; rest = (refl, tt) })
formed block (Memᴰ.tail (Memᴰ.tail m)) = elim m [ ]

one_selects : ℕ → Bool
one_selects port = leb (length (selecting port setup_blocks)) 1

unfoldable layout : Layout script
unfolding all_below one_selects setup_blocks followed selecting selects selection_written block_writes burst_writes bit
    kind_of mask_of per_port row_in rows
layout =
    record {
      start = write 1 0x21 0x01 ∷ [];
      blocks = pass_through_writes03 ∷ channel1 ∷ [];
      end = forwarding ∷ [];
      parts = refl;
      start_shared = (refl, tt);
      selection_first = starting;
      setup = record {
        formed = formed;
        disjoint = λ port h. leb→le (length (selecting port setup_blocks)) 1 (below_at one_selects 4 tt port h);
      };
      end_shared = (refl, tt);
    }

pub kept_in_block : KeptInBlock
unfolding layout
kept_in_block =
    record {
      layout = layout;
      blocks = refl;
      alike = λ hub lengths of_bytes.
          any_order_holds hub lengths of_bytes script layout (channel1 ∷ pass_through_writes03 ∷ [])
          (Permᴰ.swap refl refl);
    }

pub shared_between : SharedBetween
unfolding order_after order_step first_order kind_of mask_of per_port row_in rows bit
    no_ticks last_tick with_tick with_ticks ticks_again any_again any_write shared_in_block
shared_between = record { decided = refl; inside = refl }

pub ticked_twice : TickedTwice
unfolding order_after order_step first_order kind_of mask_of per_port row_in rows bit
    no_ticks last_tick with_tick with_ticks ticks_again any_again port_twice last_ticking
ticked_twice = record { decided = refl; port0 = refl; port1 = refl; port2 = refl; port3 = refl; latest = refl }

pub not_selected : NotSelected
unfolding order_after order_step first_order kind_of mask_of per_port row_in rows bit
    no_ticks last_tick with_tick with_ticks ticks_again any_again any_write before_selection
not_selected = record { decided = refl; first = refl }
