-- `crc::open_wide` meets its contract. The loop's invariant: the wide window stands for the first i bytes.
use mathlib.Core.Path.{◌≡◌}
use Prim.Native.Nat.{◌-◌}
use lib.ListN.{length, take}
use Rattle.crc.specs.WideRegister.{after_words, SumOfFirst}
use Rattle.crc.proofs.open_wide.Given as goal

abbrev pub invariant-loop-i : goal.invariant-loop-i
invariant-loop-i l = (length l.window ≡ 64) × SumOfFirst l.crc l.bytes l.i (after_words 0 (take 32 l.window))

abbrev pub decreases-loop-i : goal.decreases-loop-i
decreases-loop-i l = length l.bytes - l.i
