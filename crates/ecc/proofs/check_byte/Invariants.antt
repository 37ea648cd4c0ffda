-- `ecc::check_byte` meets its contract. The loop's invariant: the check byte so far is the exclusive-or of the first i columns.
use mathlib.Core.Path.{◌≡◌}
use Prim.Native.Nat.{◌-◌, ◌≤◌}
use Rattle.ecc.specs.Columns.{xor_of_columns}
use Rattle.ecc.proofs.check_byte.Given as goal

abbrev pub invariant-loop-i : goal.invariant-loop-i
invariant-loop-i l = (l.i ≤ 24) × (l.check ≡ xor_of_columns l.i l.word)

abbrev pub decreases-loop-i : goal.decreases-loop-i
decreases-loop-i l = 24 - l.i
