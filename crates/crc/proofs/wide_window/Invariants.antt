-- `crc::wide_window` meets its contract. The loop's invariant: the first i words stand for 8 * i bytes.
use mathlib.Core.Path.{◌≡◌}
use Prim.Native.Nat.{◌-◌, ◌*◌, ◌≤◌}
use lib.ListN.{length, take}
use Rattle.crc.specs.Checksum.{crc_from}
use Rattle.crc.specs.WideRegister.{after_words}
use Rattle.crc.proofs.wide_window.Given as goal

abbrev pub invariant-loop-i : goal.invariant-loop-i
invariant-loop-i l = ((l.i ≤ 32) × (length l.window ≡ 64)) × (after_words l.crc (take l.i l.window) ≡ crc_from l.crc (take (8 * l.i) l.bytes))

abbrev pub decreases-loop-i : goal.decreases-loop-i
decreases-loop-i l = 32 - l.i
