-- `ecc::correct_bit` meets its contract. The loop's invariant: the search from bit i on finds what the whole search does.
use mathlib.Core.Path.{◌≡◌, sym, ap, ◌∙◌}
use lib.ListN.{get_or}
use Rattle.laws.specs.Reply.{given}
use Rattle.laws.proofs.Tables.{tabulate-at}
use Rattle.ecc.specs.Columns.{data_column}
use Rattle.ecc.specs.Syndrome.{column_of}
use Rattle.ecc.proofs.ColumnLaws.{data_column_lem}
use Rattle.ecc.proofs.Near.{column_here, column_later}
use native.Mathlib.Omega.{arith}
use Rattle.ecc.proofs.correct_bit.Goals as goal
use Rattle.ecc.proofs.correct_bit.Goals.{In-loop-i}

-- what is compared in a turn is the column of its bit
compared : (c : In-loop-i) → get_or c.column_table-table.result c.loop-i.i 0 ≡ column_of c.loop-i.i
compared c = let i = c.loop-i.i in
    let h = c.loop-i-test.true in
    ap (λ t. get_or t i 0) c.column_table-table.ensures ∙ tabulate-at data_column 24 i h ∙ sym (data_column_lem i h)

pub returns-then-table-i : goal.returns-then-table-i
returns-then-table-i c =
    let l = c.loop-i in
    ap given c.flip_bit.ensures ∙ sym (column_here _ l.i (omega arith) (sym (compared ((goal.at.returns-then-table-i c).In-loop-i)) ∙ c.if-table-i.true ∙ c.requires)) ∙ l.invariant.1

pub loop-i-preserved : goal.loop-i-preserved
loop-i-preserved c =
    let l = c.loop-i in
    (omega arith, sym (column_later _ l.i (omega arith) (λ e. c.if-table-i.false (compared ((goal.at.loop-i-preserved c).In-loop-i) ∙ e ∙ sym c.requires))) ∙ l.invariant.1)
