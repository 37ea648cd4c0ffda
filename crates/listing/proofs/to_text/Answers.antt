-- `listing::to_text` meets its contract: an answer by the count, and the text that it speaks of is put.
use Rattle.std.proofs.Common.{refl}
use Rattle.std.specs.Prelude.{Ok, Err}
use Rattle.std.proofs.lemmas.Result.{err_from_is_err_and}
use Rattle.listing.specs.Listing.{trace_calls, trace_text}
use Rattle.listing.proofs.AnswerLaws.{no_text_lem, text_put}
use Rattle.listing.proofs.to_text.Goals as goal

pub returns-in_err-length : goal.returns-in_err-length
unfolding trace_text
returns-in_err-length c =
    let x = c.args in
    let told = err_from_is_err_and c.from_residual.result c.from_residual.ensures.1 in
    rw (told.1, told.2)
    (no_text_lem x.out.now 0 (trace_calls x.trace.now) c.count_calls.ensures
    (Err c.in_err-length.field-0.0) c.in_err-length.ensures refl)

pub returns : goal.returns
unfolding trace_text
returns c =
    let x = c.args in
    text_put x.out.now 0 (trace_calls x.trace.now) c.count_calls.ensures
    (Ok c.in_ok-length.length) c.in_ok-length.ensures refl c.put_records.ensures
