-- `listing::record::hub_calls` meets its contract: no calls, or refusal 2.
use Rattle.std.proofs.Common.{sym}
use Rattle.listing.specs.Listing.{calls_asked}
use Rattle.listing.proofs.record.hub_calls.Goals as goal

pub returns-then-is_hub_address : goal.returns-then-is_hub_address
unfolding calls_asked
returns-then-is_hub_address c = λ start. rw (sym c.is_hub_address.ensures, c.if-is_hub_address.true)

pub returns : goal.returns
unfolding calls_asked
returns c = λ start. rw (sym c.is_hub_address.ensures, c.if-is_hub_address.false)
