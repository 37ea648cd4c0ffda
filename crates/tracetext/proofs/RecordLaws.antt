-- Laws of one record that may be listed: what the tests tell, and that its text is the next part of what is to come.
-- Assumes nothing.
use Rattle.std.proofs.Common.{◌≡◌, ℕ, ◌+◌, ◌%◌, ◌^◌, ◌<◌, ◌≤◌, Bool, true, false, cond, not, ◌&&◌, List, [], ◌++◌, length, drop, sym, refl, ap, ◌∙◌, add-zero, arith, length-append, length-drop, ne_eqb, leb-true}
use borrow.Author.Tests.{not-true}
use Rattle.laws.specs.Reply.{Reply, refused_with, given, on_reply}
use Rattle.laws.specs.Buffers.{written, has_room}
use Rattle.laws.specs.Elements.{AreBytes}
use Rattle.laws.proofs.Bools.{both}
use Rattle.laws.proofs.Buffers.{written_nil}
use Rattle.laws.proofs.Elements.{below_from}
use Rattle.registers.specs.Bursts.{RegisterWrite}
use Rattle.trace.specs.Framing.{record_length}
use Rattle.trace.specs.Records.{record_of}
use Rattle.trace.proofs.WindowLaws.{rest_less, shows, some_left, same_next}
use Rattle.listing.specs.Listing.{calls_text, record_calls, followed_by, left_calls, longest_text}
use Rattle.listing.proofs.TextLaws.{texts_join}
use Rattle.listing.proofs.RecordLaws.{CallsOf, no_record, address_out_of_range, no_text_form, of_values, calls_of_lem, text_most}
use Rattle.listing.proofs.TraceLaws.{records_join}
use Rattle.std.specs.Prelude.{Option, Some}
use Rattle.listing.specs.declared.TextRefusal.{TextRefusal}
use Rattle.tracetext.specs.declared.TextRun.{TextRun}
use Rattle.tracetext.specs.TextWindows.{is_text_refusal, is_first_record, next_calls, ListState, may_list_next, may_list, list_calls, list_one}
use Rattle.tracetext.specs.TextFiles.{refused_or}

-- the text that is still to come, with those bytes of the trace left
abbrev pub to_come : TextRun → List ℕ → Reply (List ℕ)
to_come run left = refused_or run.refusal (on_reply calls_text (left_calls (is_first_record run) left))

-- some text, and then what comes after it
abbrev pub text_then : List ℕ → Reply (List ℕ) → Reply (List ℕ)
text_then text later = on_reply (λ (more : List ℕ). text ++ more) later

-- what is known of the bytes that are still to come: the count of records has room for them
pub record Known (run : TextRun) (bytes : List ℕ) : Type 0 where
  pub small : AreBytes bytes
  pub counts : run.records + length bytes < 2 ^ 64

-- What was put is the next part of the text that is to come, whatever follows the window in the trace.
pub record ListsNext (rest : List ℕ) (before after : ListState) : Type 0 where
  pub text : List ℕ
  pub stored : after.out ≡ written before.out before.at text
  pub place : after.at ≡ before.at + length text
  pub inside : after.at ≤ length before.out
  pub listed : to_come before.run (before.left ++ rest) ≡ text_then text (to_come after.run (after.left ++ rest))
  pub known : Known after.run (after.left ++ rest)

-- the text of some calls, and of those after them
texts_then : (here : List RegisterWrite) (later : Reply (List RegisterWrite))
    → on_reply calls_text (on_reply (λ (more : List RegisterWrite). here ++ more) later) ≡ text_then (calls_text here) (on_reply calls_text later)
texts_then here (refused_with number detail) = refl
texts_then here (given later) = ap given (texts_join here later)

-- the bytes that may still be listed: none after a refusal
abbrev pub todo : ListState → ℕ
todo state = cond (is_text_refusal state.run.refusal) 0 (length state.left)

pub todo_most : (state : ListState) → todo state ≤ length state.left
todo_most state = go (is_text_refusal state.run.refusal)
  where
    go : (b : Bool) → cond b 0 (length state.left) ≤ length state.left
    go true = omega arith
    go false = omega arith

-- no more is left than there was
pub one_most : (state : ListState) → length (list_one state).left ≤ length state.left
unfolding list_one
one_most state = go (next_calls state.run state.left)
  where
    go : (reply : Reply (List RegisterWrite)) → length (list_calls state reply).left ≤ length state.left
    go (refused_with number detail) = omega arith
    go (given calls) = omega (arith, length-drop (record_length state.left) state.left)

-- a record that may be listed
module _ (last : Bool) (state : ListState) (may : may_list last state ≡ true) where
  abbrev left : List ℕ
  left = state.left

  abbrev first : Bool
  first = is_first_record state.run

  -- what the tests tell
  tests : (is_text_refusal state.run.refusal ≡ false) × (shows last left ≡ true) × (state.at + longest_text ≤ length state.out)
  unfolding may_list_next
  tests =
      let on = not (is_text_refusal state.run.refusal) in
      let room = has_room (length state.out) state.at longest_text in
      let outer = both (on && room) (shows last left) may in
      let inner = both on room outer.0 in
      (not-true (is_text_refusal state.run.refusal) inner.0, outer.1, leb-true (state.at + longest_text) (length state.out) inner.1)

  pub has_room_lem : state.at + longest_text ≤ length state.out
  has_room_lem = tests.2

  some_byte : 1 ≤ length state.left
  some_byte = some_left last left tests.1

  -- less is to do after it
  pub one_less : 1 + todo (list_one state) ≤ todo state
  unfolding list_one
  one_less = rw tests.0 (go (calls_of_lem first left))
    where
      go : {reply : Reply (List RegisterWrite)} → CallsOf left reply → 1 + todo (list_calls state reply) ≤ length left
      go no_record = some_byte
      go address_out_of_range = some_byte
      go no_text_form = some_byte
      go (of_values calls few) = rest_less left some_byte

  module _ (rest : List ℕ) (ends : last ≡ true → rest ≡ []) (known : Known state.run (left ++ rest)) where
    abbrev later : List ℕ
    later = drop (record_length left) left ++ rest

    some_more : 1 ≤ length (left ++ rest)
    some_more = omega (arith, some_byte, length-append left rest)

    -- what is to come is the text of the next record, and then of those after it
    all : to_come state.run (left ++ rest) ≡ on_reply calls_text (followed_by (next_calls state.run left) (left_calls false later))
    all =
        let same = same_next last first left rest ends tests.1 in
        rw tests.0 (ap (on_reply calls_text) (rw (same.found, same.after) at (records_join first (left ++ rest) some_more)))

    -- a refusal: nothing is put
    refused_next : (refusal : Option TextRefusal) → to_come state.run (left ++ rest) ≡ refused_or refusal (given [])
        → is_text_refusal refusal ≡ true
        → ListsNext rest state (record { run = record { records = state.run.records; refusal = refusal }; left = left; out = state.out; at = state.at })
    refused_next new e wrong =
        record {
          text = [];
          stored = sym (written_nil state.out state.at);
          place = sym (add-zero state.at);
          inside = omega (arith, has_room_lem);
          listed = e ∙ rw wrong;
          known = record { small = known.small; counts = known.counts };
        }

    given_next : (calls : List RegisterWrite) → record_calls (record_of first (left ++ rest)) ≡ given calls
        → to_come state.run (left ++ rest) ≡ on_reply calls_text (followed_by (given calls) (left_calls false later))
        → ListsNext rest state (list_calls state (given calls))
    given_next calls found e =
        let same = same_next last first left rest ends tests.1 in
        let fewer = ap length (sym same.after) in
        let less = rest_less (left ++ rest) some_more in
        let count = known.counts in
        let not_first = ne_eqb ((state.run.records + 1) % 2 ^ 64) 0 (λ z. omega (arith, count, some_more)) in
        record {
          text = calls_text calls;
          stored = refl;
          place = refl;
          inside = omega (arith, has_room_lem, text_most first (left ++ rest) found (known.small 3));
          listed = e ∙ texts_then calls (left_calls false later) ∙ rw not_first;
          known = record { small = rw same.after at (below_from 256 (record_length (left ++ rest)) (left ++ rest) known.small); counts = omega arith };
        }

    pub one_lists : ListsNext rest state (list_one state)
    unfolding list_one
    one_lists =
        let same = same_next last first left rest ends tests.1 in
        go (rw same.found at (calls_of_lem first (left ++ rest))) (ap record_calls same.found) all
      where
        go : {reply : Reply (List RegisterWrite)} → CallsOf (left ++ rest) reply → record_calls (record_of first (left ++ rest)) ≡ reply
            → to_come state.run (left ++ rest) ≡ on_reply calls_text (followed_by reply (left_calls false later))
            → ListsNext rest state (list_calls state reply)
        go no_record found e = refused_next (Some TextRefusal.NoRecord) e refl
        go address_out_of_range found e = refused_next (Some TextRefusal.AddressOutOfRange) e refl
        go no_text_form found e = refused_next (Some TextRefusal.NoTextForm) e refl
        go (of_values calls few) found e = given_next calls found e
