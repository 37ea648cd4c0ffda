-- `listing::record::record_calls` meets its contract, by what the record asks.
use Rattle.std.proofs.Common.{◌≡◌, sym, ap, ◌∙◌}
use Rattle.laws.specs.Reply.{given}
use Rattle.trace.specs.Framing.{data_of}
use Rattle.trace.specs.Records.{record_of, record_in, found_reply}
use Rattle.listing.specs.Listing.{calls_asked}
use Rattle.listing.proofs.TextLaws.{length-burst}
use Rattle.listing.proofs.RecordLaws.{no_text_form_lem}
use Rattle.listing.proofs.record.record_calls.Goals as goal
use Rattle.listing.proofs.record.record_calls.Goals.{In-Some}

-- the record that was found
found : (c : In-Some) →
    let x = c.args in
    record_of x.first x.bytes.now ≡ given (record_in (data_of x.bytes.now) c.in-Some.asked)
found c = sym c.record_at.ensures ∙ ap (found_reply (data_of c.args.bytes.now)) c.in-Some.is

pub returns-in-Write : goal.returns-in-Write
unfolding calls_asked
returns-in-Write c = rw (found ((goal.at.returns-in-Write c).In-Some), c.in-Write.is, length-burst, c.values.ensures)

pub returns : goal.returns
returns c =
    let x = c.args in
    rw (
      found ((goal.at.returns c).In-Some),
      no_text_form_lem (data_of x.bytes.now) c.in-Some.asked
          c.in_default-asked.not-Hub
          c.in_default-asked-2.not-Write,
    )
