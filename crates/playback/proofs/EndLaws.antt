-- How a run ends from a session on: the line of the next record, and then the end from there, and at last the counts.
-- Assumes nothing.
use Rattle.std.proofs.Common.{◌≡◌, ℕ, suc, ◌+◌, ◌%◌, ◌^◌, ◌≤◌, Bool, true, false, cond, eqb, List, ◌++◌, length, drop, refl, ap, ◌∙◌, append_assoc, add-zero, zero-add, arith, ne_eqb, eqb-true}
use Rattle.laws.specs.Reply.{Reply, is_refused}
use Rattle.trace.specs.Framing.{record_length}
use Rattle.trace.proofs.WindowLaws.{rest_less}
use Rattle.answers.specs.Answers.{Answer}
use Rattle.printing.specs.PrintedLines.{printed_line}
use Rattle.playback.specs.declared.Session.{Session}
use Rattle.playback.specs.Playing.{Played, PlayedRecords, none_left, answer_then, printed_lines, refused_among}
use Rattle.playback.specs.Windows.{is_first, played_next, session_after, RunEnd, end_of, play_left, end_from, text_then, session_end, CountsFit}
use Rattle.playback.specs.Windows.{StartsWithAll, EndsWithCounts}
use Rattle.playback.proofs.PlayingLaws.{no_records, next_record}

pub starts_with_all : StartsWithAll
unfolding end_from
starts_with_all file = simp zero-add

-- no record is to come
none_left_lem : (session : Session) (packets left : List ℕ) → play_left session packets left ≡ none_left session.hub
    → end_from session packets left ≡ session_end session
unfolding end_from printed_lines refused_among
none_left_lem session packets left e = ap (end_of session.records session.refusals) e ∙ simp add-zero

pub ends_with_counts : EndsWithCounts
ends_with_counts session packets left h = go session.ended refl h
  where
    go : (b : Bool) → session.ended ≡ b → cond b true (eqb (length left) 0) ≡ true → end_from session packets left ≡ session_end session
    go true e k = none_left_lem session packets left (rw e)
    go false e k =
        none_left_lem session packets left
        (rw e (no_records (length left) (is_first session) session.hub packets left (eqb-true (length left) 0 k)))

-- text before text
pub text_text : (a b : List ℕ) (end : RunEnd) → text_then (a ++ b) end ≡ text_then a (text_then b end)
text_text a b end = rw append_assoc

-- the line of the next answer comes first
line_first : (records refusals : ℕ) (reply : Reply Answer) (later : PlayedRecords) {r f : ℕ} → r ≡ records + 1 → f ≡ refusals + cond (is_refused reply) 1 0
    → end_of records refusals (answer_then reply later) ≡ text_then (printed_line r reply) (end_of r f later)
unfolding printed_lines refused_among
line_first records refusals reply later p q =
    let number : suc (records + 1) ≡ records + 1 + 1 = omega arith in
    let count : records + suc (length later.answers) ≡ records + 1 + length later.answers = omega arith in
    let refusal : ℕ = cond (is_refused reply) 1 0 in
    let among : refusals + (refusal + refused_among later.answers) ≡ refusals + refusal + refused_among later.answers = omega arith in
    rw (p, q, append_assoc, number, count, among)

-- the session after the next record, and its line
abbrev pub session_next : Session → List ℕ → List ℕ → Session
session_next session packets left = session_after session (played_next session packets left)

abbrev pub line_next : Session → List ℕ → List ℕ → List ℕ
line_next session packets left = printed_line (session_next session packets left).records (played_next session packets left).reply

-- a byte is left
module _ (session : Session) (packets left : List ℕ) (some : 1 ≤ length left) (fit : CountsFit session left) where
  abbrev done : Played
  done = played_next session packets left

  abbrev next : Session
  next = session_next session packets left

  -- the counts have room for one more
  records_next : next.records ≡ session.records + 1
  unfolding session_after
  records_next = omega arith

  refusals_next : next.refusals ≡ session.refusals + cond (is_refused done.reply) 1 0
  unfolding session_after
  refusals_next = go (is_refused done.reply)
    where
      go : (b : Bool) → (session.refusals + cond b 1 0) % 2 ^ 64 ≡ session.refusals + cond b 1 0
      go true = omega arith
      go false = omega arith

  -- and then for those after it
  pub counts_next : CountsFit (session_next session packets left) (drop (record_length left) left)
  counts_next = go (is_refused done.reply) refusals_next
    where
      go : (b : Bool) → next.refusals ≡ session.refusals + cond b 1 0 → CountsFit next (drop (record_length left) left)
      go true e = let less = rest_less left some in let records = records_next in (omega arith, omega arith)
      go false e = let less = rest_less left some in let records = records_next in (omega arith, omega arith)

  module _ (on : session.ended ≡ false) where
    next_then : play_left session packets left ≡ answer_then done.reply (play_left next done.packets (drop (record_length left) left))
    unfolding session_after
    next_then =
        let later : is_first next ≡ false = ne_eqb next.records 0 (λ e. omega (arith, records_next)) in
        rw (on, later) (next_record (is_first session) session.hub packets left some)

    -- the next line comes first, and then the end from there
    pub end_next : end_from session packets left
        ≡ text_then (line_next session packets left)
        (end_from (session_next session packets left) (played_next session packets left).packets (drop (record_length left) left))
    unfolding end_from
    end_next =
        ap (end_of session.records session.refusals) next_then
        ∙ line_first session.records session.refusals done.reply (play_left next done.packets (drop (record_length left) left)) records_next refusals_next
