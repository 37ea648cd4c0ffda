-- `ecc::correct_bit` meets its contract. The loop's invariant: the search from bit i on finds what the whole search does.
use mathlib.Core.Path.{◌≡◌}
use Prim.Native.Nat.{◌-◌, ◌≤◌}
use Rattle.ecc.specs.HeaderCorrection.{correct_from}
use Rattle.ecc.proofs.correct_bit.Given as goal

abbrev pub invariant-loop-i : goal.invariant-loop-i
invariant-loop-i l = (l.i ≤ 24) × (correct_from l.header l.i (32 - l.i) ≡ correct_from l.header 0 32)

abbrev pub decreases-loop-i : goal.decreases-loop-i
decreases-loop-i l = 24 - l.i
