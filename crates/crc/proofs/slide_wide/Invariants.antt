-- `crc::slide_wide` meets its contract. The loop's invariant: the window at i stands for 8 * i bytes more.
use mathlib.Core.Path.{◌≡◌}
use Prim.Native.Nat.{ℕ, ◌+◌, ◌-◌, ◌*◌, ◌≤◌}
use lib.ListN.{length, drop}
use Rattle.crc.specs.WideRegister.{StandFor}
use Rattle.crc.proofs.slide_wide.Given as goal

abbrev pub invariant-loop-i : goal.invariant-loop-i
invariant-loop-i l = ((l.i ≤ 32) × (length l.window ≡ 64)) × ((crc : ℕ) → StandFor crc l.bytes l.at l.initial.window → StandFor crc l.bytes (l.at + 8 * l.i) (drop l.i l.window))

abbrev pub decreases-loop-i : goal.decreases-loop-i
decreases-loop-i l = 32 - l.i
