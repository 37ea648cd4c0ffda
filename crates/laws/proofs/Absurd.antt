-- What follows from an equation that cannot be: `cc` finds 0 ≡ 1 in it.
-- Assumes nothing.
use mathlib.Core.Path.{◌≡◌}
use Prim.Native.Nat.{ℕ}
use native.Mathlib.Omega.{arith}

pub zero_not_one : {A : Type 0} → ◌≡◌ {A = ℕ} 0 1 → A
zero_not_one e = absurd (omega arith)
