-- One record by the source's steps: it is refused, or its text was put.
-- Assumes nothing.
use Rattle.std.proofs.Common.{◌≡◌, ℕ, ◌+◌, ◌%◌, ◌^◌, ◌<◌, ◌≤◌, List, length, get_or, sym, refl, ap, arith}
use Rattle.std.specs.Prelude.{Result, Ok, Err, Some, None}
use Rattle.laws.specs.Reply.{Reply, refused_with, given, on_reply}
use Rattle.laws.specs.Buffers.{Writes}
use Rattle.laws.proofs.Buffers.{length-written, answered_so}
use Rattle.laws.proofs.Replies.{refused_given, given_same}
use Rattle.registers.specs.Bursts.{RegisterWrite}
use Rattle.trace.specs.Framing.{record_length}
use Rattle.listing.specs.declared.TextRefusal.{TextRefusal}
use Rattle.listing.specs.declared.ListingRefusal.{ListingRefusal}
use Rattle.listing.specs.Refusals.{text_refusal_number, listing_refusal_number}
use Rattle.listing.specs.Listing.{calls_text, record_text, longest_text, listing_reply}
use Rattle.listing.proofs.RecordLaws.{calls_whole, text_most}
use Rattle.listing.proofs.AnswerLaws.{longest_text_lem}
use Rattle.tracetext.specs.TextWindows.{refusal_of, is_first_record, next_calls, ListState, list_one, ListsOne}

-- a refusal is told by its number
pub told_by : (refusal : TextRefusal) → refusal ≡ refusal_of (text_refusal_number refusal)
told_by TextRefusal.NoRecord = refl
told_by TextRefusal.AddressOutOfRange = refl
told_by TextRefusal.NoTextForm = refl

module _ (before : ListState) (room : before.at + longest_text ≤ length before.out) (small : get_or before.left 3 0 < 256) {out : List ℕ} where
  writes : (answer : Result ℕ ListingRefusal)
      → Writes before.out before.at (record_text (is_first_record before.run) before.left (length before.out) before.at) (listing_reply answer) out
      → Writes before.out before.at (on_reply calls_text (next_calls before.run before.left)) (listing_reply answer) out
  writes answer answered =
      answered_so before.out before.at (sym (longest_text_lem (is_first_record before.run) before.left (length before.out) before.at small room)) answered

  pub one_refused : {refusal : TextRefusal} (told : ListingRefusal)
      → Writes before.out before.at (record_text (is_first_record before.run) before.left (length before.out) before.at) (listing_reply (Err told)) out
      → refusal ≡ refusal_of (listing_refusal_number told)
      → ListsOne before (record { run = record { records = before.run.records; refusal = Some refusal }; used = 0; next = before.at }) out
  unfolding list_one
  one_refused {refusal} told answered r = go (next_calls before.run before.left) refl (writes (Err told) answered)
    where
      go : (reply : Reply (List RegisterWrite)) → next_calls before.run before.left ≡ reply
          → Writes before.out before.at (on_reply calls_text reply) (listing_reply (Err told)) out
          → ListsOne before (record { run = record { records = before.run.records; refusal = Some refusal }; used = 0; next = before.at }) out
      go (refused_with number detail) e w =
          let same : listing_refusal_number told ≡ number = cc (w.answer) in
          record { state = rw (e, r, same, w.buffer); used = omega arith; place = omega (arith, room, ap length w.buffer) }
      go (given calls) e w = refused_given refl w.answer

  pub one_put : {n used : ℕ}
      → Writes before.out before.at (record_text (is_first_record before.run) before.left (length before.out) before.at) (listing_reply (Ok n)) out
      → used ≡ record_length before.left
      → ListsOne before (record { run = record { records = (before.run.records + 1) % 2 ^ 64; refusal = None }; used = used; next = before.at + n }) out
  unfolding list_one
  one_put {n} {used} answered u = go (next_calls before.run before.left) refl (writes (Ok n) answered)
    where
      go : (reply : Reply (List RegisterWrite)) → next_calls before.run before.left ≡ reply
          → Writes before.out before.at (on_reply calls_text reply) (listing_reply (Ok n)) out
          → ListsOne before (record { run = record { records = (before.run.records + 1) % 2 ^ 64; refusal = None }; used = used; next = before.at + n }) out
      go (refused_with number detail) e w = refused_given (w.answer) refl
      go (given calls) e w =
          let count = given_same refl w.answer in
          let most = text_most (is_first_record before.run) before.left e small in
          record {
            state = rw (e, u, count, w.buffer);
            used = rw u (calls_whole (is_first_record before.run) before.left e);
            place = rw w.buffer (omega (arith, room, count, most, length-written before.out before.at (calls_text calls) (omega arith)));
          }
