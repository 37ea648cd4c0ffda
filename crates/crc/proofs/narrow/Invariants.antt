-- `crc::narrow` meets its contract. The loop's invariant: the window stands for the first i words.
use mathlib.Core.Path.{◌≡◌}
use Prim.Native.Nat.{◌-◌, ◌≤◌}
use lib.ListN.{take}
use Rattle.crc.specs.WideRegister.{after_window, after_words}
use Rattle.crc.proofs.narrow.Given as goal

abbrev pub invariant-loop-i : goal.invariant-loop-i
invariant-loop-i l = (l.i ≤ 32) × (after_window l.short ≡ after_words 0 (take l.i l.window))

abbrev pub decreases-loop-i : goal.decreases-loop-i
decreases-loop-i l = 32 - l.i
