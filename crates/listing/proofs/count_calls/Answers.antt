-- `listing::count_calls` meets its contract. The loop's invariant: the calls of the records passed are counted.
use Rattle.std.proofs.Common.{◌≡◌, ◌+◌, ◌≤◌, eqb, List, ◌++◌, length, ap, ◌∙◌, arith, length-append, length-drop}
use Rattle.laws.specs.Reply.{given}
use Rattle.laws.proofs.Replies.{on_given, on_refused}
use Rattle.registers.specs.Bursts.{RegisterWrite}
use Rattle.trace.specs.Framing.{record_length}
use Rattle.trace.specs.Records.{record_of}
use Rattle.trace.proofs.RecordLaws.{some_bytes}
use Rattle.listing.specs.Listing.{record_calls}
use Rattle.listing.proofs.RecordLaws.{few_calls, calls_whole}
use Rattle.listing.proofs.TraceLaws.{empty_trace, passed_refused, passed_more, passed_all}
use Rattle.listing.proofs.count_calls.Goals as goal
use Rattle.listing.proofs.count_calls.Goals.{In-Ok}

-- the calls of a record that was counted
calls_at : (c : In-Ok) →
    (here : List RegisterWrite) × (record_calls (record_of (eqb c.loop-from.from 0) c.bytes_from-left.result.now) ≡ given here)
    × (c.in-Ok.n ≡ length here)
calls_at c = on_given length _ c.in-Ok.ensures

-- they are no more than its bytes, and it lies inside the trace
inside : (c : In-Ok) →
    let from = c.loop-from.from in
    let left = c.bytes_from-left.result.now in
    (c.in-Ok.n ≤ record_length left) × (from + record_length left ≤ length c.args.trace.now)
inside c =
    let l = c.loop-from in
    let calls = calls_at c in
    let few = few_calls (eqb l.from 0) c.bytes_from-left.result.now calls.1 in
    let whole = calls_whole (eqb l.from 0) c.bytes_from-left.result.now calls.1 in
    let size = ap length c.bytes_from-left.ensures ∙ length-drop l.from _ in
    let same = calls.2 in
    (omega arith, omega arith)

pub returns-then-trace-eq0 : goal.returns-then-trace-eq0
returns-then-trace-eq0 c = rw (empty_trace c.args.trace.now c.if-trace-eq0.true)

pub returns-in-Err : goal.returns-in-Err
returns-in-Err c =
    let refusal = on_refused length _ c.in-Err.ensures in
    rw (passed_refused c.loop-from.invariant.2.2 _ c.bytes_from-left.ensures c.loop-from-test.true refusal)

pub overflow_add-total : goal.overflow_add-total
overflow_add-total c = omega (arith, inside c)

pub overflow_add-from : goal.overflow_add-from
overflow_add-from c = omega (arith, inside ((goal.at.overflow_add-from c).In-Ok))

pub loop-from-smaller : goal.loop-from-smaller
loop-from-smaller c = omega (arith, some_bytes c.bytes_from-left.result.now)

pub loop-from-preserved : goal.loop-from-preserved
loop-from-preserved c =
    let l = c.loop-from in
    let done = l.invariant.2 in
    let here = calls_at ((goal.at.loop-from-preserved c).In-Ok) in
    let within = inside ((goal.at.loop-from-preserved c).In-Ok) in
    let more = passed_more done.2 _ c.bytes_from-left.ensures c.loop-from-test.true here.1 in (
      omega arith,
      omega arith,
      (done.0 ++ here.0, omega (arith, length-append done.0 here.0, done.1, here.2), rw c.record_length-from.ensures more),
    )

pub returns : goal.returns
returns c =
    let done = c.loop-from.invariant.2 in
    rw (passed_all done.2 (omega arith) c.if-trace-eq0.false, done.1)
