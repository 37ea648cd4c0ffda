-- `crc::word` meets its contract. The loop's invariant: the word holds the bytes from `i` on.
use Prim.Native.Nat.{◌+◌, ◌-◌, ◌≤◌}
use Rattle.crc.specs.WideRegister.{Holds}
use Rattle.crc.proofs.word.Given as goal

abbrev pub invariant-loop-i : goal.invariant-loop-i
invariant-loop-i l = (l.i ≤ l.n) × Holds l.bytes (l.at + l.i) (l.n - l.i) l.x

abbrev pub decreases-loop-i : goal.decreases-loop-i
decreases-loop-i l = l.i
