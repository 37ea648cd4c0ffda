-- `listing::text::put_records` meets its contract. The loop's invariant: the text of the records passed was put.
use Rattle.std.proofs.Common.{◌≤◌, [], ◌++◌, refl, ◌∙◌, arith}
use Rattle.laws.specs.Elements.{AreBytes}
use Rattle.laws.proofs.Elements.{below_from}
use Rattle.laws.proofs.Replies.{refused_given, given_same}
use Rattle.buffers.proofs.PutLaws.{put_nothing, put_then_lem}
use Rattle.trace.specs.Framing.{record_length, longest_record}
use Rattle.trace.proofs.RecordLaws.{some_bytes, record_most}
use Rattle.listing.specs.Listing.{calls_text}
use Rattle.listing.proofs.TextLaws.{texts_join}
use Rattle.listing.proofs.TraceLaws.{empty_trace, passed_none, passed_more, next_given, passed_all}
use Rattle.listing.proofs.text.put_records.Goals as goal
use Rattle.listing.proofs.text.put_records.Goals.{After-bytes_from-left}

-- a record's length is small
small : (c : After-bytes_from-left) → record_length c.bytes_from-left.result.now ≤ longest_record
small c =
    let trace = c.args.trace.now in
    let bytes : AreBytes trace = λ i. omega (arith, c.type_inv.trace i) in
    record_most c.bytes_from-left.result.now (rw c.bytes_from-left.ensures (below_from 256 c.loop-from.from trace bytes 3))

pub loop-from-init : goal.loop-from-init
unfolding calls_text
loop-from-init c = let x = c.args in (refl, λ calls e. ([], passed_none x.trace.now, put_nothing x.out.now 0))

pub overflow_add-from : goal.overflow_add-from
overflow_add-from c = omega (arith, small ((goal.at.overflow_add-from c).After-bytes_from-left), c.record_length-from.ensures)

pub loop-from-smaller : goal.loop-from-smaller
loop-from-smaller c = omega (arith, some_bytes c.bytes_from-left.result.now)

pub loop-from-preserved : goal.loop-from-preserved
loop-from-preserved c =
    let l = c.loop-from in (
      c.put_record-at.auto.out ∙ l.invariant.0,
      λ calls e.
          let p = l.invariant.1 calls e in
          let here = next_given p.1 _ c.bytes_from-left.ensures c.loop-from-test.true e in
          let more = passed_more p.1 _ c.bytes_from-left.ensures c.loop-from-test.true here.1 in
          (p.0 ++ here.0, rw c.record_length-from.ensures more, rw (texts_join p.0 here.0) (put_then_lem p.2 (c.put_record-at.ensures here.0 here.1))),
    )

pub returns : goal.returns
returns c calls e =
    let l = c.loop-from in
    let trace = c.args.trace.now in
    let p = l.invariant.1 calls e in
    rw (given_same e (passed_all p.1 (omega arith) (λ none. refused_given (empty_trace trace none) e))) p.2
