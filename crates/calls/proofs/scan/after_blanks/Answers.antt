-- `calls::scan::after_blanks` meets its contract. The loop's invariant: the blanks from here on end where those from the start end.
use mathlib.Core.Path.{sym}
use native.Mathlib.Omega.{arith}
use lib.ListN.{drop_of_length-le}
use Rattle.calls.specs.ScriptLines.{after_blanks}
use Rattle.calls.proofs.ScanLaws.{by_blank}
use Rattle.calls.proofs.scan.after_blanks.Goals as goal

pub loop-place-preserved : goal.loop-place-preserved
loop-place-preserved c =
    let l = c.loop-place in
    rw (sym l.invariant, by_blank c.args.line.now l.place (omega arith), sym c.is_blank.ensures, c.if-is_blank.true)

pub returns-else-is_blank : goal.returns-else-is_blank
returns-else-is_blank c =
    let l = c.loop-place in
    rw (sym l.invariant, by_blank c.args.line.now l.place (omega arith), sym c.is_blank.ensures, c.if-is_blank.false)

pub returns-after-loop-place : goal.returns-after-loop-place
unfolding after_blanks
returns-after-loop-place c =
    let l = c.loop-place in
    rw (sym l.invariant, drop_of_length-le c.args.line.now {i = l.place} (omega arith))
