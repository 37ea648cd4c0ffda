-- `tracewrites::record::take_record` meets its contract, by what the record asks.
use Rattle.laws.specs.Reply.{given}
use Rattle.trace.specs.Framing.{data_of}
use Rattle.trace.specs.Records.{record_of, record_in}
use Rattle.tracewrites.specs.RecordTurns.{take_record}
use Rattle.tracewrites.proofs.TakeLaws.{one_hub, one_write, one_other}
use mathlib.Core.Path.{◌≡◌, sym}
use native.Mathlib.Omega.{arith}
use lib.Dec.{eqb}
use Rattle.tracewrites.proofs.record.take_record.Goals as goal
use Rattle.tracewrites.proofs.record.take_record.Goals.{In-Some}

-- the record that was found
found : (c : In-Some) →
    let x = c.args in
    record_of (eqb x.records 0) x.left.now ≡ given (record_in (data_of x.left.now) c.in-Some.asked)
found c = rw c.in-Some.is at (sym c.record_at.ensures)

pub returns-in_default : goal.returns-in_default
unfolding take_record
returns-in_default c = rw (sym c.record_at.ensures, c.in_default.is, c.not_passed.ensures)

pub returns-in-Hub : goal.returns-in-Hub
returns-in-Hub c =
    let x = c.args in
    one_hub x.records x.left.now x.values.now c.in-Some.asked (found ((goal.at.returns-in-Hub c).In-Some)) c.in-Hub.is
    c.taken_hub.ensures

pub returns-in-Write : goal.returns-in-Write
returns-in-Write c =
    let x = c.args in
    one_write x.records x.left.now x.values.now c.in-Some.asked (found ((goal.at.returns-in-Write c).In-Some))
    (omega (arith, c.type_inv.left 3)) c.requires c.in-Write.is c.next_record_number-number.ensures
    (rw c.values.ensures at c.put_bytes-count.ensures) c.passed_as.ensures

pub returns : goal.returns
returns c =
    let x = c.args in
    one_other x.records x.left.now x.values.now c.in-Some.asked (found ((goal.at.returns c).In-Some))
    c.in_default-asked.not-Hub c.in_default-asked-2.not-Write c.passed_as-2.ensures
