-- `tracetext::record::list_one` meets its contract: a refusal, or the text that was put.
use Rattle.std.proofs.Common.{◌+◌, ◌%◌, ◌^◌, arith}
use Rattle.std.specs.Prelude.{None}
use Rattle.tracetext.specs.TextWindows.{list_state_at, ListsOne}
use Rattle.tracetext.proofs.ListedOne.{one_refused, one_put}
use Rattle.tracetext.proofs.record.list_one.Goals as goal
use Rattle.tracetext.proofs.record.list_one.Goals.{After-record_length}

-- the record was put
listed : (c : After-record_length) →
    let x = c.args in
    ListsOne (list_state_at x.run x.left.now x.out.now x.at)
    (record {
      run = record { records = (x.run.records + 1) % 2 ^ 64; refusal = None };
      used = c.record_length.result;
      next = x.at + c.in-Ok.bytes;
    })
    c.record_text.new.out
listed c =
    let x = c.args in
    one_put (list_state_at x.run x.left.now x.out.now x.at) c.requires (omega (arith, c.type_inv.left 3)) c.in-Ok.ensures
    c.record_length.ensures

pub returns-in-Err : goal.returns-in-Err
returns-in-Err c =
    let x = c.args in
    one_refused (list_state_at x.run x.left.now x.out.now x.at) c.requires (omega (arith, c.type_inv.left 3)) c.in-Err.refusal c.in-Err.ensures
    c.refusal_in.ensures

pub overflow_add-result : goal.overflow_add-result
overflow_add-result c = omega (arith, (listed ((goal.at.overflow_add-result c).After-record_length)).place)

pub returns-in-Ok : goal.returns-in-Ok
returns-in-Ok c = listed ((goal.at.returns-in-Ok c).After-record_length)
