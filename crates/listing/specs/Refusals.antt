-- The papers' numbers of the refusals of a trace's text and of its hub: L1.
-- Assumes nothing.
use Rattle.std.specs.Prelude.{ℕ}
use Rattle.listing.specs.declared.TextRefusal.{TextRefusal}
use Rattle.listing.specs.declared.ListingRefusal.{ListingRefusal}
use Rattle.listing.specs.declared.HubRefusal.{HubRefusal}

-- "13 (an empty trace too), 2 in record 1, then 16, a record kind with no text form"
abbrev pub text_refusal_number : TextRefusal → ℕ
text_refusal_number TextRefusal.NoRecord = 13
text_refusal_number TextRefusal.AddressOutOfRange = 2
text_refusal_number TextRefusal.NoTextForm = 16

-- "8 last"
abbrev pub listing_refusal_number : ListingRefusal → ℕ
listing_refusal_number (ListingRefusal.Text refusal) = text_refusal_number refusal
listing_refusal_number ListingRefusal.NoRoom = 8

abbrev pub hub_refusal_number : HubRefusal → ℕ
hub_refusal_number HubRefusal.NoRecord = 13
hub_refusal_number HubRefusal.AddressOutOfRange = 2
