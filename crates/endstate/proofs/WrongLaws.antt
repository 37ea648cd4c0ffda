-- Laws of counting the numbers below n that a test holds of.
-- Assumes nothing.
use Rattle.std.specs.Prelude.{Option, None, Some}
use mathlib.Core.Path.{◌≡◌, refl}
use mathlib.Core.Bool.{Bool, true, false, cond}
use Prim.Native.Nat.{ℕ, zero, suc, ◌+◌, ◌≤◌}
use native.Mathlib.Numerals.{add-one}
use native.Mathlib.Omega.{arith}
use Rattle.endstate.specs.declared.findings.Grade.{Grade}
use Rattle.endstate.specs.Findings.{ClashFinding, clash_graded, clash_of}
use Rattle.endstate.specs.Wrong.{grade_of, is_wrong, count_below}

one_more : {n count : ℕ} (found : Bool) → count ≤ n → cond found (count + 1) count ≤ suc n
one_more true h = omega arith
one_more false h = omega arith

module _ (test : ℕ → Bool) where
  pub count_none : 0 ≡ count_below test 0
  unfolding count_below
  count_none = refl

  -- one number more
  pub count_more : (i : ℕ) {before after : ℕ} {found : Bool} → before ≡ count_below test i → found ≡ test i
      → after ≡ cond found (before + 1) before → after ≡ count_below test (i + 1)
  unfolding count_below
  count_more i b f a = rw (add-one i, a, f, b)

  pub count_within : (n : ℕ) → count_below test n ≤ n
  unfolding count_below
  count_within zero = omega arith
  count_within (suc n) = one_more (test n) (count_within n)

-- a finding is wrong as it is graded
pub finding_grade : (finding : ClashFinding) → is_wrong (grade_of (clash_of finding)) ≡ is_wrong finding.grade
finding_grade finding = go finding.grade
  where
    go : (grade : Option Grade) → is_wrong (grade_of (clash_graded grade finding.ports finding.lines)) ≡ is_wrong grade
    go None = refl
    go (Some grade) = refl
