-- `trace::question` meets its contract, by the direction.
use mathlib.Core.Path.{sym}
use native.Mathlib.Omega.{arith}
use borrow.Author.Tests.{ne_eqb}
use Rattle.trace.specs.Records.{question_record}
use Rattle.trace.proofs.question.Goals as goal

pub returns-in-0 : goal.returns-in-0
unfolding question_record
returns-in-0 c = rw (sym c.byte_at.ensures, c.in-0.is, c.byte_at-address.ensures)

pub returns-in-1 : goal.returns-in-1
unfolding question_record
returns-in-1 c = rw (sym c.byte_at.ensures, c.in-1.is, c.byte_at-address.ensures)

pub returns-in_default : goal.returns-in_default
unfolding question_record
returns-in_default c =
    let d = c.byte_at in
    rw (sym d.ensures, ne_eqb d.result 0 (omega arith), ne_eqb d.result 1 (omega arith))
