-- `listing::hub_of` meets its contract, by what the first record asks.
use Rattle.std.proofs.Common.{◌≡◌, true, sym, ap, ◌∙◌}
use Rattle.laws.specs.Reply.{given}
use Rattle.trace.specs.Framing.{data_of}
use Rattle.trace.specs.Records.{record_of, record_in, found_reply}
use Rattle.listing.specs.TraceHubs.{hub_of_asked, trace_hub}
use Rattle.listing.proofs.HubLaws.{no_hub}
use Rattle.listing.proofs.hub_of.Goals as goal
use Rattle.listing.proofs.hub_of.Goals.{In-Some}

-- the record that was found
found : (c : In-Some) →
    let trace = c.args.trace.now in
    record_of true trace ≡ given (record_in (data_of trace) c.in-Some.asked)
found c = sym c.record_at.ensures ∙ ap (found_reply (data_of c.args.trace.now)) c.in-Some.is

pub returns-in_default : goal.returns-in_default
unfolding trace_hub
returns-in_default c = rw (sym c.record_at.ensures, c.in_default.is)

pub returns-in_default-asked : goal.returns-in_default-asked
unfolding trace_hub
returns-in_default-asked c =
    let trace = c.args.trace.now in
    rw (
      found ((goal.at.returns-in_default-asked c).In-Some),
      no_hub (data_of trace) c.in-Some.asked
          c.in_default-asked.not-Hub,
    )

pub returns-then-is_hub_address : goal.returns-then-is_hub_address
unfolding trace_hub hub_of_asked
returns-then-is_hub_address c = rw (found ((goal.at.returns-then-is_hub_address c).In-Some), c.in-Hub.is, sym c.is_hub_address.ensures, c.if-is_hub_address.true)

pub returns : goal.returns
unfolding trace_hub hub_of_asked
returns c = rw (found ((goal.at.returns c).In-Some), c.in-Hub.is, sym c.is_hub_address.ensures, c.if-is_hub_address.false)
