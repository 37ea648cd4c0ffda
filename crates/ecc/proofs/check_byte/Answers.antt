-- `ecc::check_byte` meets its contract. The loop's invariant: the check byte so far is the exclusive-or of the first i columns.
use mathlib.Core.Path.{◌≡◌, sym, ap, ap₂, ◌∙◌}
use Prim.Native.Nat.{ℕ, ◌*◌}
use native.Mathlib.Omega.{arith}
use lib.Bits.{bit_and, bit_xor}
use lib.ListN.{get_or}
use Rattle.laws.specs.Bits.{digit}
use Rattle.laws.proofs.Tables.{tabulate-at}
use Rattle.ecc.specs.Columns.{data_column}
use Rattle.ecc.proofs.XorLaws.{xor_none, xor_more, xor_is_counts}
use Rattle.ecc.proofs.check_byte.Goals as goal
use Rattle.ecc.proofs.check_byte.Goals.{In-loop-i}

-- the entry of the table for the bit of this turn
entry : (c : In-loop-i) → get_or c.column_table-table.result c.loop-i.i 0 ≡ data_column c.loop-i.i
entry c = let i = c.loop-i.i in
    ap (λ t. get_or t i 0) c.column_table-table.ensures ∙ tabulate-at data_column 24 i c.loop-i-test.true

pub loop-i-init : goal.loop-i-init
loop-i-init c = (omega arith, sym (xor_none _))

pub loop-i-preserved : goal.loop-i-preserved
loop-i-preserved c =
    let l = c.loop-i in
    let word = c.args.word in
    (omega arith, ap₂ bit_xor l.invariant.1 (ap (λ (t : ℕ). bit_and t (255 * digit l.i word)) (entry ((goal.at.loop-i-preserved c).In-loop-i))) ∙ sym (xor_more l.i word))

pub returns : goal.returns
returns c =
    let l = c.loop-i in
    let all : l.i ≡ 24 = omega arith in
    rw all at l.invariant.1 ∙ xor_is_counts _
