use Rattle.endstate.proofs.LineRows.{row_with, Settled}
use Rattle.endstate.proofs.lines.with_line.Given as goal

abbrev pub invariant-loop-i : goal.invariant-loop-i
invariant-loop-i l = Settled l.given l.numbers l.i l.carried (row_with l.fn.number l.given)
