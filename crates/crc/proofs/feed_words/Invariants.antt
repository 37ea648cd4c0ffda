-- `crc::feed_words` meets its contract. The loop's invariant: the sum is that of the first i bytes.
use Prim.Native.Nat.{◌-◌}
use lib.ListN.{length}
use Rattle.crc.specs.WideRegister.{SumOfFirst}
use Rattle.crc.proofs.feed_words.Given as goal

abbrev pub invariant-loop-i : goal.invariant-loop-i
invariant-loop-i l = SumOfFirst l.crc l.bytes l.i l.sum

abbrev pub decreases-loop-i : goal.decreases-loop-i
decreases-loop-i l = length l.bytes - l.i
