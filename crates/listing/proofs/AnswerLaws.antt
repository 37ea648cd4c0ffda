-- Laws of the answer by the count of calls: the text that it speaks of, or the refusal.
-- Assumes nothing.
use Rattle.std.proofs.Common.{◌≡◌, ℕ, ◌+◌, ◌≤◌, Bool, true, false, cond, List, length, sym, refl, ap, ◌∙◌, arith, le-leb}
use Rattle.laws.specs.Reply.{Reply, refused, refused_with, given, on_reply}
use Rattle.laws.specs.Buffers.{has_room, if_room, after_reply, count_of, Writes}
use Rattle.laws.proofs.Buffers.{writing}
use Rattle.laws.proofs.Replies.{refused_given, then_given, room_by, room_given, count_given}
use Rattle.buffers.specs.Putting.{Puts}
use Rattle.buffers.proofs.PutLaws.{whole_buffer}
use Rattle.registers.specs.Bursts.{RegisterWrite}
use Rattle.trace.specs.Records.{record_of}
use Rattle.std.specs.Prelude.{Result, Ok, Err}
use Rattle.listing.specs.declared.ListingRefusal.{ListingRefusal}
use Rattle.listing.specs.Listing.{calls_text, record_calls, trace_calls, text_if_room, trace_text, record_text, LongestText, listing_reply}
use Rattle.listing.specs.PrivateContracts.{bytes_if_room}
use Rattle.listing.proofs.TextLaws.{length-text}
use Rattle.listing.proofs.RecordLaws.{text_most}

-- the answer by the count is how many bytes the text has, or why there is none
pub by_count : (size place : ℕ) (calls : Reply (List RegisterWrite)) → bytes_if_room size place (on_reply length calls) ≡ count_of (text_if_room size place calls)
unfolding if_room
by_count size place (refused_with number detail) = refl
by_count size place (given calls) = rw (sym (length-text calls)) (go (has_room size place (length (calls_text calls))))
  where
    go : (b : Bool) → cond b (given (length (calls_text calls))) (refused 8) ≡ count_of (cond b (given (calls_text calls)) (refused 8))
    go true = refl
    go false = refl

-- the text of a trace is that of its calls
pub trace_text_given : (trace : List ℕ) (size : ℕ) {text : List ℕ} → trace_text trace size ≡ given text
    → (calls : List RegisterWrite) × (trace_calls trace ≡ given calls) × (text ≡ calls_text calls)
unfolding trace_text
trace_text_given trace size e =
    let taken = then_given (trace_calls trace) (λ written. if_room size 0 (calls_text written)) e in
    (taken.0, taken.1, (room_given size 0 (calls_text taken.0) taken.2).0)

-- the text of a record has room where so many bytes are free
pub longest_text_lem : LongestText
unfolding record_text
longest_text_lem first bytes size place small free = go (record_calls (record_of first bytes)) refl
  where
    go : (reply : Reply (List RegisterWrite)) → record_calls (record_of first bytes) ≡ reply → text_if_room size place reply ≡ on_reply calls_text reply
    go (refused_with number detail) e = refl
    go (given calls) e =
        let text = calls_text calls in
        room_by size place text (length text) refl (le-leb (place + length text) size (omega (arith, text_most first bytes e small)))

-- what a text that is given has: calls, and room
pub text_given : (size place : ℕ) (calls : Reply (List RegisterWrite)) {n : ℕ} → given n ≡ count_of (text_if_room size place calls)
    → (taken : List RegisterWrite) × (calls ≡ given taken) × (text_if_room size place calls ≡ given (calls_text taken))
    × (n ≡ length (calls_text taken)) × (place + length (calls_text taken) ≤ size)
text_given size place calls e =
    let found = count_given (text_if_room size place calls) e in
    let taken = then_given calls (λ written. if_room size place (calls_text written)) found.1 in
    let room = room_given size place (calls_text taken.0) taken.2 in
    (taken.0, taken.1, found.1 ∙ ap given room.0, found.2 ∙ ap length room.0, room.1)

-- an answer by the count of some calls
module _ (before : List ℕ) (place : ℕ) (calls : Reply (List RegisterWrite)) {counted : Reply ℕ} (counts : counted ≡ on_reply length calls)
    (answer : Result ℕ ListingRefusal) (told : listing_reply answer ≡ bytes_if_room (length before) place counted) where
  abbrev reply : Reply (List ℕ)
  reply = text_if_room (length before) place calls

  answered : listing_reply answer ≡ count_of reply
  answered = told ∙ ap (bytes_if_room (length before) place) counts ∙ by_count (length before) place calls

  -- no text: the buffer stays
  pub no_text_lem : {refusal : ListingRefusal} → answer ≡ Err refusal → Writes before place reply (listing_reply answer) before
  no_text_lem {refusal} e = record { answer = answered; buffer = go reply (sym (ap listing_reply e) ∙ answered) }
    where
      go : (r : Reply (List ℕ)) → listing_reply (Err refusal) ≡ count_of r → before ≡ after_reply before place r
      go (refused_with number detail) k = refl
      go (given bytes) k = refused_given refl k

  -- a text: it was put
  pub text_put : {n : ℕ} {after : List ℕ} {next : ℕ} → answer ≡ Ok n
      → ((taken : List RegisterWrite) → calls ≡ given taken → Puts before place (calls_text taken) after next)
      → Writes before place reply (listing_reply answer) after
  text_put {n} e puts =
      let found = text_given (length before) place calls (rw e at answered) in
      rw e (writing before place n (calls_text found.0) found.2 found.3 (whole_buffer (puts found.0 found.1) found.4))
