-- `endstate::lines::with_line` meets its contract: the places before `i` are settled, and a number is carried on.
use mathlib.Core.Path.{◌≡◌}
use native.Mathlib.Omega.{arith}
use lib.ListN.{length}
use Rattle.endstate.proofs.LineRows.{settled_stop, settled_more, settled_all}
use Rattle.endstate.proofs.LineRows.{one_more}
use borrow.Author.Rules.{rules}
use Rattle.endstate.proofs.lines.with_line.Goals as goal

pub returns-then-at-eq0 : goal.returns-then-at-eq0
returns-then-at-eq0 c =
    let a = c.args in
    let size : length a.lines.numbers ≡ 12 = search rules in
    one_more a.lines a.number size
    (settled_stop size c.loop-i.invariant c.loop-i-test.true c.if-at-eq0.true)

pub loop-i-preserved : goal.loop-i-preserved
loop-i-preserved c =
    let a = c.args in
    let size : length a.lines.numbers ≡ 12 = search rules in
    rw (c.placed_at.ensures, c.carried_on-carried.ensures)
    (settled_more size c.loop-i.invariant c.loop-i-test.true c.if-at-eq0.false)

pub returns : goal.returns
returns c =
    let a = c.args in
    let size : length a.lines.numbers ≡ 12 = search rules in
    one_more a.lines a.number size (settled_all size c.loop-i.invariant (omega (arith, c.loop-i.invariant.within)))
