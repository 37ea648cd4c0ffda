-- A trace may be listed window by window, so that however it is read its text, or its refusal, comes out.
-- Assumes nothing.
use Rattle.std.proofs.Common.{◌≡◌, ℕ, ◌<◌, ◌≤◌, Bool, true, false, cond, not, List, [], ◌++◌, length, take, sym, refl, ap, ◌∙◌, append-nil, zero-add, arith, ne_eqb, le-leb}
use lib.ListN.{get_or-append}
use Rattle.laws.specs.Reply.{Reply, refused, given}
use Rattle.laws.proofs.Absurd.{zero_not_one}
use Rattle.laws.proofs.Buffers.{read_written}
use Rattle.laws.proofs.Replies.{joined_none, joined_twice}
use Rattle.streams.specs.Streams.{Result, ByWindows}
use Rattle.streams.proofs.StreamLaws.{however_read}
use Rattle.trace.specs.Framing.{longest_record}
use Rattle.trace.proofs.RecordLaws.{longest_record_lem}
use Rattle.trace.proofs.WindowLaws.{shows}
use Rattle.listing.specs.Listing.{calls_text, longest_text}
use Rattle.listing.proofs.TraceLaws.{none_left_lem, empty_trace}
use Rattle.streams.specs.Streams.{number_or_0}
use Rattle.listing.specs.Refusals.{text_refusal_number}
use Rattle.tracetext.specs.declared.TextRun.{TextRun}
use Rattle.tracetext.specs.TextWindows.{is_text_refusal, new_text_run, is_first_record, ListState, list_state_at, may_list_next, may_list}
use Rattle.tracetext.specs.TextFiles.{window_listed, listing, end_refusal, refused_or, TextHoweverCut}
use Rattle.tracetext.proofs.RecordLaws.{to_come, text_then, Known, todo_most}
use Rattle.tracetext.proofs.WindowLaws.{windows_list, left_most, none_listed, to_do_less}

-- the end: the refusal, or no more text
abbrev end_reply : TextRun → Reply (List ℕ)
end_reply run = refused_or (end_refusal run) (given [])

abbrev text_result : Result TextRun (Reply (List ℕ))
text_result = record { to_come = to_come; after = text_then; end = end_reply }

-- where nothing is to come, or the run is over
over_end : (run : TextRun) (left : List ℕ) → is_text_refusal run.refusal ≡ true → to_come run left ≡ end_reply run
unfolding end_refusal
over_end run left e = rw (e, e)

at_end_lem : (run : TextRun) → to_come run [] ≡ end_reply run
unfolding end_refusal calls_text
at_end_lem run = go (is_text_refusal run.refusal) refl (is_first_record run) refl
  where
    go : (b : Bool) → is_text_refusal run.refusal ≡ b → (first : Bool) → is_first_record run ≡ first → to_come run [] ≡ end_reply run
    go true e first f = over_end run [] e
    go false e true f = rw (e, f, empty_trace [] refl)
    go false e false f = rw (e, f, none_left_lem [] refl)

module _ (last : Bool) (run : TextRun) (bytes lent rest : List ℕ) (room : longest_text ≤ length lent) (known : Known run (bytes ++ rest)) where
  abbrev before : ListState
  before = list_state_at run bytes lent 0

  abbrev after : ListState
  after = window_listed last run bytes lent

  next_window : (last ≡ true → rest ≡ [])
      → (to_come run (bytes ++ rest) ≡ text_then (take after.at after.out) (to_come after.run (after.left ++ rest)))
      × Known after.run (after.left ++ rest)
      × (is_text_refusal after.run.refusal ≡ true → to_come after.run (after.left ++ rest) ≡ end_reply after.run)
  next_window ends =
      let lists = windows_list (length bytes) last rest before ends (omega arith) known in
      let put : take after.at after.out ≡ lists.text =
      rw (lists.stored, lists.place, zero-add (length lists.text)) (read_written lent 0 lists.text (omega (arith, lists.place, lists.inside))) in
      (rw put lists.listed, lists.known, over_end after.run (after.left ++ rest))

  shown : 1 ≤ length bytes → (last ≡ false → longest_record ≤ length bytes) → (b : Bool) → last ≡ b → shows b bytes ≡ true
  shown one long true e = ap not (ne_eqb (length bytes) 0 (λ z. absurd (omega arith)))
  shown one long false e =
      let enough = long e in
      longest_record_lem bytes (rw (get_or-append bytes rest 0 3 (omega arith)) at (known.small 3)) enough

  fewer : 1 ≤ length bytes → (last ≡ false → longest_record ≤ length bytes) → is_text_refusal after.run.refusal ≡ false
      → length after.left < length bytes
  unfolding may_list_next
  fewer one long on = go (is_text_refusal run.refusal) refl
    where
      go : (b : Bool) → is_text_refusal run.refusal ≡ b → length after.left < length bytes
      go true e =
          let same = ap (λ (s : ListState). is_text_refusal s.run.refusal) (none_listed (length bytes) last before (rw e)) in
          zero_not_one (cc)
      go false e =
          let may : may_list last before ≡ true = rw (e, le-leb longest_text (length lent) room, shown one long last refl) in
          omega (arith, rw on at (to_do_less (length bytes) last before (omega arith) may), todo_most before)

by_windows : ByWindows listing text_result Known longest_record longest_text
by_windows =
    record {
      joined = λ a b r. sym (joined_twice a b r);
      nothing = λ r. sym (joined_none r);
      at_end = at_end_lem;
      next = λ last run bytes lent rest ends room known. next_window last run bytes lent rest room known ends;
      most = λ last run bytes lent. left_most (length bytes) last (list_state_at run bytes lent 0);
      less = λ last run bytes lent rest room known one long on. fewer last run bytes lent rest room known one long on;
    }

-- the text that was put out before the end
text_end : (put : List ℕ) (run : TextRun) → text_then put (end_reply run) ≡ refused_or (end_refusal run) (given put)
text_end put run = go (is_text_refusal (end_refusal run)) (number_or_0 text_refusal_number (end_refusal run))
  where
    go : (b : Bool) (number : ℕ) → text_then put (cond b (refused number) (given [])) ≡ cond b (refused number) (given put)
    go true number = refl
    go false number = ap given (append-nil put)

pub text_however_cut : TextHoweverCut
text_however_cut trace size inputs bytes small holds room few =
    let known : Known new_text_run trace = record { small = bytes; counts = omega arith } in
    let end = however_read TextRun (Reply (List ℕ)) listing text_result Known longest_record longest_text by_windows new_text_run trace size inputs known (omega arith) holds room few in
    record { done = end.0; text = sym (text_end _ _) ∙ end.1 }
