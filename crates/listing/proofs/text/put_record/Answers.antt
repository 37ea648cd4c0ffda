-- `listing::text::put_record` meets its contract: a write has the text of its burst, and any other record none.
use Rattle.std.proofs.Common.{◌≡◌, sym, refl, ap, ◌∙◌}
use Rattle.laws.specs.Reply.{given}
use Rattle.laws.proofs.Replies.{given_same}
use Rattle.buffers.proofs.PutLaws.{put_nothing}
use Rattle.trace.specs.Framing.{data_of}
use Rattle.trace.specs.Records.{record_of, record_in, found_reply}
use Rattle.listing.specs.Listing.{calls_text, calls_asked, record_calls}
use Rattle.listing.proofs.RecordLaws.{no_calls}
use Rattle.listing.proofs.text.put_record.Goals as goal
use Rattle.listing.proofs.text.put_record.Goals.{In-Some}

-- the record that was found
found : (c : In-Some) →
    let x = c.args in
    record_of x.first x.bytes.now ≡ given (record_in (data_of x.bytes.now) c.in-Some.asked)
found c = sym c.record_at.ensures ∙ ap (found_reply (data_of c.args.bytes.now)) c.in-Some.is

pub returns-in_default-asked : goal.returns-in_default-asked
unfolding calls_text
returns-in_default-asked c calls e =
    let x = c.args in
    let none =
    no_calls (data_of x.bytes.now) c.in-Some.asked c.in_default-asked.not-Write
    (sym (ap record_calls (found ((goal.at.returns-in_default-asked c).In-Some))) ∙ e) in
    rw none (put_nothing x.out.now x.at)

pub returns : goal.returns
unfolding calls_asked
returns c calls e =
    let burst = rw (found ((goal.at.returns c).In-Some), c.in-Write.is) at e in
    rw (given_same refl (sym burst), sym c.values.ensures) c.put_burst.ensures
