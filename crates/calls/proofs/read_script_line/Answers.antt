-- `calls::read_script_line` meets its contract, by whether the line ends after its spaces and tabs.
use mathlib.Core.Path.{sym}
use Rattle.std.proofs.lemmas.Result.{err_from_is_err_and}
use Rattle.calls.specs.ScriptLines.{script_line_read}
use Rattle.calls.proofs.read_script_line.Goals as goal

pub returns-then-ends : goal.returns-then-ends
unfolding script_line_read
returns-then-ends c = rw (sym c.ends.ensures, c.if-ends.true)

pub returns-in_err-call : goal.returns-in_err-call
unfolding script_line_read
returns-in_err-call c =
    let refused = err_from_is_err_and c.from_residual.result c.from_residual.ensures.1 in
    rw (refused.1, sym c.ends.ensures, c.if-ends.false, sym c.read_call.ensures, c.in_err-call.ensures.ok_part)

pub returns : goal.returns
unfolding script_line_read
returns c = rw (sym c.ends.ensures, c.if-ends.false, sym c.read_call.ensures, c.in_ok-call.ensures.ok_part)
