-- `script::text::count_calls` meets its contract. The loop's invariant: the calls of the lines passed are counted; each line has a byte, its line feed.
use mathlib.Core.Path.{refl, sym}
use mathlib.Core.List.{[], ◌++◌}
use Prim.Native.Nat.{◌+◌, ◌<◌}
use native.Mathlib.Numerals.{add-one}
use native.Mathlib.Omega.{arith}
use lib.ListN.{length, length-drop, length-append}
use Rattle.calls.specs.ScriptLines.{calls_in}
use Rattle.script.proofs.TextLaws.{one_call, passed_none, passed_more, passed_all}
use Rattle.script.proofs.text.count_calls.Goals as goal

pub loop-at-init : goal.loop-at-init
loop-at-init c = (omega arith, omega arith, omega arith, ([], refl, passed_none _))

pub loop-at-preserved-then-is_some : goal.loop-at-preserved-then-is_some
loop-at-preserved-then-is_some c =
    let line = c.in-Ok.line in
    let taken = c.in-Ok.ensures in
    let l = c.loop-at in
    let here = calls_in line.call in
    let done = l.invariant.3.0 in
    let one = one_call line.call (sym c.if-is_some.ensures) in
    let more = passed_more l.invariant.3.2 here line.length (taken.calls (l.passed + 1)) in
    let within : l.at + line.length < length c.args.text.now = omega (arith, length-drop l.at c.args.text.now, taken.within) in (
      omega arith,
      omega arith,
      omega arith,
      (done ++ here, omega (arith, length-append done here, l.invariant.3.1, one), rw (add-one (l.passed + 1)) more),
    )

pub returns : goal.returns
returns c =
    let l = c.loop-at in
    rw (passed_all l.invariant.3.2 (omega arith), l.invariant.3.1)
