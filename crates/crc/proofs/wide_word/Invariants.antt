-- `crc::wide_word` meets its contract. The loop's invariant: the word holds the first i bytes.
use Prim.Native.Nat.{◌-◌, ◌≤◌}
use Rattle.crc.specs.WideRegister.{Holds}
use Rattle.crc.proofs.wide_word.Given as goal

abbrev pub invariant-loop-i : goal.invariant-loop-i
invariant-loop-i l = (l.i ≤ 8) × Holds l.bytes l.at l.i l.x

abbrev pub decreases-loop-i : goal.decreases-loop-i
decreases-loop-i l = 8 - l.i
