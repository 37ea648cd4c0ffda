-- `script::text::first_script_line` meets its contract, by the line's length and shape.
use mathlib.Core.Path.{sym}
use native.Mathlib.Omega.{arith}
use Rattle.std.specs.Prelude.{Ok, Err}
use Rattle.std.proofs.lemmas.Result.{err_from_is_err_and}
use Rattle.script.proofs.FirstLineLaws.{too_long, no_line_feed_lem, line_shape}
use Rattle.script.proofs.text.first_script_line.Goals as goal

pub returns-then-length-gt-LONGEST_LINE : goal.returns-then-length-gt-LONGEST_LINE
returns-then-length-gt-LONGEST_LINE c =
    let length = c.line_length-length in
    sym (too_long c.args.left.now length.result length.ensures c.if-length-gt-LONGEST_LINE.true)

pub returns-then-left-length : goal.returns-then-left-length
returns-then-left-length c =
    let length = c.line_length-length in
    sym (no_line_feed_lem c.args.left.now length.result length.ensures (omega arith) c.if-left-length.true)

pub returns-in_err-call : goal.returns-in_err-call
returns-in_err-call c =
    let length = c.line_length-length in
    let refused = err_from_is_err_and c.from_residual.result c.from_residual.ensures.1 in
    rw (refused.1, refused.2)
    (sym (line_shape c.args.left.now length.result length.ensures (omega arith) (omega arith) (Err c.in_err-call.field-0.0) c.in_err-call.ensures))

pub returns : goal.returns
returns c =
    let length = c.line_length-length in
    sym (line_shape c.args.left.now length.result length.ensures (omega arith) (omega arith) (Ok c.in_ok-call.call) c.in_ok-call.ensures)
