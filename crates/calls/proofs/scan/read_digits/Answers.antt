-- `calls::scan::read_digits` meets its contract, by how many digits stand there.
use mathlib.Core.Path.{◌≡◌, ap, ◌∙◌}
use mathlib.Core.List.{List}
use Prim.Native.Nat.{ℕ, ◌+◌}
use native.Mathlib.Nat.{add-zero}
use native.Mathlib.Omega.{arith}
use lib.ListN.{get_or, drop}
use lib.Seq.{get_or-drop, drop-drop}
use borrow.Author.Tests.{lt-ltb, le-ltb}
use Rattle.calls.specs.Grammar.{digit_value}
use Rattle.calls.specs.ScriptLines.{digits_read}
use Rattle.calls.proofs.ScanLaws.{digit_inside}
use Rattle.calls.proofs.scan.read_digits.Goals as goal

-- the byte at a place is the first from there on
here : (line : List ℕ) (at : ℕ) → get_or (drop at line) 0 0 ≡ get_or line at 0
here line at = get_or-drop at line 0 0 ∙ ap (λ (n : ℕ). get_or line n 0) (add-zero at)

pub returns-in_err-high : goal.returns-in_err-high
unfolding digits_read
returns-in_err-high c =
    let x = c.args in
    rw (c.from_residual.ensures, here x.line.now x.at, le-ltb (digit_value (get_or x.line.now x.at 0)) 16 (omega arith))

pub overflow_add-at : goal.overflow_add-at
overflow_add-at c = let x = c.args in omega (arith, digit_inside x.line.now x.at c.in_ok-high.ensures.0)

pub overflow_add-digits-in-Some-2 : goal.overflow_add-digits-in-Some-2
overflow_add-digits-in-Some-2 c = let x = c.args in omega (arith, digit_inside x.line.now (x.at + 1) c.in-Some.ensures.0)

pub returns-in-None : goal.returns-in-None
unfolding digits_read
returns-in-None c =
    let x = c.args in
    let line = x.line.now in
    rw (
      here line x.at,
      get_or-drop x.at line 1 0,
      lt-ltb (digit_value (get_or line x.at 0)) 16 c.in_ok-high.ensures.0,
      le-ltb (digit_value (get_or line (x.at + 1) 0)) 16 (omega arith),
      drop-drop 1 x.at line,
      c.in_ok-high.ensures.1,
    )

pub returns-in-Some : goal.returns-in-Some
unfolding digits_read
returns-in-Some c =
    let x = c.args in
    let line = x.line.now in
    rw (
      here line x.at,
      get_or-drop x.at line 1 0,
      lt-ltb (digit_value (get_or line x.at 0)) 16 c.in_ok-high.ensures.0,
      lt-ltb (digit_value (get_or line (x.at + 1) 0)) 16 c.in-Some.ensures.0,
      drop-drop 2 x.at line,
      c.in_ok-high.ensures.1,
      c.in-Some.ensures.1,
    )
