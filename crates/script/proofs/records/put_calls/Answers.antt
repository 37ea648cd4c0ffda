-- `script::records::put_calls` meets its contract. The loop's invariant: the records of the calls of the lines passed were put.
use mathlib.Core.List.{[], ◌++◌}
use Prim.Native.Nat.{suc, ◌+◌, ◌<◌}
use native.Mathlib.Omega.{arith}
use lib.ListN.{length, length-drop}
use Rattle.laws.proofs.Replies.{given_same}
use Rattle.buffers.proofs.PutLaws.{put_nothing, put_then_lem}
use Rattle.calls.specs.ScriptLines.{calls_in}
use Rattle.script.specs.Traces.{write_records}
use Rattle.script.proofs.TextLaws.{passed_none, passed_more, passed_all}
use Rattle.script.proofs.TraceLaws.{writes_append}
use Rattle.script.proofs.records.put_calls.Goals as goal

pub loop-from-init : goal.loop-from-init
unfolding write_records
loop-from-init c = let x = c.args in (omega arith, (1, [], passed_none x.text.now, put_nothing x.out.now x.at))

pub loop-from-preserved : goal.loop-from-preserved
loop-from-preserved c =
    let line = c.in-Ok.line in
    let taken = c.in-Ok.ensures in
    let p = c.loop-from.invariant.1 in
    let here = calls_in line.call in
    let more = passed_more p.2 here line.length (taken.calls p.0) in
    let within : c.loop-from.from + line.length < length c.args.text.now = omega (arith, length-drop c.loop-from.from c.args.text.now, taken.within) in
    (omega arith, (suc p.0, p.1 ++ here, more, rw (writes_append p.1 here) (put_then_lem p.3 c.put_line-next.ensures)))

pub returns : goal.returns
returns c calls e =
    let p = c.loop-from.invariant.1 in
    rw (given_same e (passed_all p.2 (omega arith))) p.3
