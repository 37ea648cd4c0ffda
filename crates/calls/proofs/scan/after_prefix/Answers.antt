-- `calls::scan::after_prefix` meets its contract. The loop's invariant: the letters that were found leave what the word leaves.
use mathlib.Core.Path.{sym}
use native.Mathlib.Omega.{arith}
use borrow.Author.Tests.{eq-eqb, ne_eqb}
use lib.ListN.{drop_of_length-le}
use Rattle.calls.specs.ScriptLines.{after_prefix}
use Rattle.calls.proofs.ScanLaws.{by_letter, no_byte}
use Rattle.calls.proofs.scan.after_prefix.Goals as goal
use Rattle.calls.proofs.scan.after_prefix.Goals.{then-line-place-via-then-line-place, then-line-place-via-else-line-place+then-line-place-2}

pub returns-then-line-place : goal.returns-then-line-place
returns-then-line-place c =
    let l = c.loop-letter in
    let x = c.args in
    elim c.then-line-place.branch [ then-line-place-via-then-line-place w ↦ rw (sym l.invariant, no_byte x.word.now x.line.now l.letter-index l.place (omega arith) (omega arith)) | then-line-place-via-else-line-place+then-line-place-2 w ↦ rw (sym l.invariant, by_letter x.word.now x.line.now l.letter-index l.place (omega arith) (omega arith), ne_eqb _ _ w.if-line-place-2.true) ]

pub loop-letter-preserved : goal.loop-letter-preserved
loop-letter-preserved c =
    let l = c.loop-letter in
    let x = c.args in
    rw (sym l.invariant, by_letter x.word.now x.line.now l.letter-index l.place (omega arith) (omega arith), eq-eqb _ _ c.if-line-place-2.false)

pub returns : goal.returns
unfolding after_prefix
returns c =
    let l = c.loop-letter in
    rw (sym l.invariant, drop_of_length-le c.args.word.now {i = l.letter-index} (omega arith))
