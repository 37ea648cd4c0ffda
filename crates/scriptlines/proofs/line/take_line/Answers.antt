-- `scriptlines::line::take_line` meets its contract, by what the line comes to.
use Rattle.std.proofs.Common.{◌+◌, ◌≤◌, length, sym, arith}
use Rattle.script.specs.Refusals.{line_refusal_number}
use Rattle.script.proofs.FirstLineLaws.{first_given}
use Rattle.scriptlines.proofs.LineLaws.{one_refused, one_given}
use Rattle.scriptlines.proofs.line.take_line.Goals as goal

pub overflow_add-used : goal.overflow_add-used
overflow_add-used c = omega (arith, (first_given c.args.left.now (sym c.in-Ok.ensures)).0)

pub returns-in-Err : goal.returns-in-Err
returns-in-Err c =
    record { state = one_refused _ (line_refusal_number c.in-Err.refusal) (sym c.in-Err.ensures); used = omega arith }

pub returns-in-Ok : goal.returns-in-Ok
returns-in-Ok c =
    let taken = sym c.in-Ok.ensures in
    let inside : c.in-Ok.line.length + 1 ≤ length c.args.left.now = omega (arith, (first_given c.args.left.now taken).0) in
    record { state = one_given _ c.requires taken c.put_line-next.ensures; used = inside }
