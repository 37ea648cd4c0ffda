-- `ecc::correct_check_bit` meets its contract. The loop's invariant: the search from bit i on finds what the search of all check bits does.
use mathlib.Core.Path.{◌≡◌}
use Prim.Native.Nat.{◌-◌, ◌≤◌}
use Rattle.ecc.specs.HeaderCorrection.{correct_from}
use Rattle.ecc.proofs.correct_check_bit.Given as goal

abbrev pub invariant-loop-i : goal.invariant-loop-i
invariant-loop-i l = (24 ≤ l.i) × (l.i ≤ 32) × (correct_from l.header l.i (32 - l.i) ≡ correct_from l.header 24 8)

abbrev pub decreases-loop-i : goal.decreases-loop-i
decreases-loop-i l = 32 - l.i
