-- `listing::text::put_burst` meets its contract. The loop's invariant: the lines of the values passed were put.
use Rattle.std.proofs.Common.{[], ◌++◌, get_or, refl, ◌∙◌, append_assoc, append-nil, arith}
use Rattle.buffers.proofs.PutLaws.{put_nothing, put_then_lem}
use Rattle.listing.specs.Listing.{call_text}
use Rattle.listing.proofs.TextLaws.{burst_line, burst_end}
use Rattle.listing.proofs.text.put_burst.Goals as goal

pub loop-value-init : goal.loop-value-init
loop-value-init c = let x = c.args in ([], put_nothing x.out.now x.at, refl)

pub loop-value-preserved : goal.loop-value-preserved
loop-value-preserved c =
    let l = c.loop-value in
    let values = c.args.values.now in
    let done = l.invariant in
    let line = call_text (record { offset = l.next; value = get_or values l.value-index 0 }) in (
      done.0 ++ line,
      put_then_lem done.1 c.put_call-place.ensures,
      done.2 ∙ rw (burst_line l.next values l.value-index (omega arith), append_assoc),
    )

pub returns : goal.returns
returns c =
    let l = c.loop-value in
    let values = c.args.values.now in
    rw (l.invariant.2, burst_end l.next values l.value-index (omega arith), append-nil) l.invariant.1
