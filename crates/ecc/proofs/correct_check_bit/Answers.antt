-- `ecc::correct_check_bit` meets its contract. The loop's invariant: the search from bit i on finds what the search of all check bits does.
use mathlib.Core.Path.{◌≡◌, sym, ap, ◌∙◌}
use Prim.Native.Nat.{ℕ, ◌-◌, ◌*◌, ◌%◌, ◌^◌, ◌<◌, ◌≤◌}
use Rattle.laws.specs.Reply.{given}
use Rattle.laws.proofs.Bits.{one_shifted}
use Rattle.ecc.specs.Syndrome.{column_of}
use Rattle.ecc.proofs.ColumnLaws.{check_column}
use Rattle.ecc.proofs.Near.{correct_none, column_here, column_later}
use native.Mathlib.Omega.{arith}
use Rattle.ecc.proofs.correct_check_bit.Goals as goal

-- what is compared in a turn is the column of its bit
compared : (i : ℕ) → 24 ≤ i → i < 32 → 1 * 2 ^ (i - 24) % 2 ^ 8 ≡ column_of i
compared i l h = one_shifted 8 (i - 24) (omega arith) ∙ sym (check_column i l h)

pub returns-then-i-syndrome : goal.returns-then-i-syndrome
returns-then-i-syndrome c =
    let l = c.loop-i in
    let this = compared l.i l.invariant.0 (omega arith) in
    ap given c.flip_bit.ensures ∙ sym (column_here _ l.i (omega arith) (sym this ∙ c.if-i-syndrome.true ∙ c.requires)) ∙ l.invariant.2

pub loop-i-preserved : goal.loop-i-preserved
loop-i-preserved c =
    let l = c.loop-i in
    let this = compared l.i l.invariant.0 (omega arith) in
    (omega arith, omega arith, sym (column_later _ l.i (omega arith) (λ e. c.if-i-syndrome.false (this ∙ e ∙ sym c.requires))) ∙ l.invariant.2)

pub returns : goal.returns
returns c = let l = c.loop-i in sym (correct_none _ l.i (omega arith)) ∙ l.invariant.2
