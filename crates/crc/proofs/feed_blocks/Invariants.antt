-- `crc::feed_blocks` meets its contract. The loop's invariant: the window stands for the first i bytes.
use Prim.Native.Nat.{◌-◌}
use lib.ListN.{length}
use Rattle.crc.specs.WideRegister.{after_window, SumOfFirst}
use Rattle.crc.proofs.feed_blocks.Given as goal

abbrev pub invariant-loop-i : goal.invariant-loop-i
invariant-loop-i l = SumOfFirst l.crc l.bytes l.i (after_window l.window)

abbrev pub decreases-loop-i : goal.decreases-loop-i
decreases-loop-i l = length l.bytes - l.i
