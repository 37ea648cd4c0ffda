-- The calls of the lines of a text that were passed so far.
-- Assumes nothing.
use mathlib.Core.Path.{◌≡◌, refl, ap, ◌∙◌}
use mathlib.Core.List.{List, [], ◌++◌, append-nil}
use mathlib.Core.Bool.{true}
use Prim.Native.Nat.{ℕ, suc, ◌+◌, ◌≤◌}
use lib.ListN.{length, drop, drop_of_length-le}
use lib.Seq.{drop-drop}
use Rattle.std.specs.Prelude.{Option, Some, None, is_some}
use Rattle.laws.specs.Reply.{refused_at, given}
use Rattle.laws.proofs.Replies.{joined_none, joined_twice}
use Rattle.laws.proofs.Absurd.{zero_not_one}
use Rattle.registers.specs.Bursts.{RegisterWrite}
use Rattle.calls.specs.declared.Call.{Call}
use Rattle.calls.specs.ScriptLines.{calls_in}
use Rattle.script.specs.Reading.{rest_reply, joined_to, parts_of, calls_from, script_calls}

-- a line that has a call has one
pub one_call : (call : Option Call) → is_some call ≡ true → length (calls_in call) ≡ 1
one_call (Some call) e = refl
one_call None e = zero_not_one (cc)

-- The lines up to a place were passed, with their calls: the text's calls are those and the calls from there on.
pub record Passed (text : List ℕ) (from number : ℕ) (done : List RegisterWrite) : Type 0 where
  pub same : script_calls text ≡ joined_to done (calls_from number (parts_of (drop from text)))

pub passed_none : (text : List ℕ) → Passed text 0 1 []
unfolding script_calls
passed_none text = record { same = joined_none (calls_from 1 (parts_of text)) }

module _ {text : List ℕ} {from number : ℕ} {done : List RegisterWrite} (passed : Passed text from number done) where
  -- the next line is refused
  pub passed_refused : (refusal : ℕ) → calls_from number (parts_of (drop from text)) ≡ refused_at refusal number → script_calls text ≡ refused_at refusal number
  passed_refused refusal e = passed.same ∙ ap (joined_to done) e

  -- or passed, with its calls
  pub passed_more : (here : List RegisterWrite) (n : ℕ)
      → calls_from number (parts_of (drop from text)) ≡ joined_to here (calls_from (suc number) (parts_of (drop (n + 1) (drop from text))))
      → Passed text (from + (n + 1)) (suc number) (done ++ here)
  passed_more here n e =
      let later = calls_from (suc number) (parts_of (drop (from + (n + 1)) text)) in
      record { same = passed.same ∙ rw (e, drop-drop (n + 1) from text) (joined_twice done here later) }

  -- where the text has ended, all lines were passed
  pub passed_all : length text ≤ from → script_calls text ≡ given done
  unfolding calls_from parts_of rest_reply
  passed_all h = passed.same ∙ rw (drop_of_length-le text {i = from} h) (ap given (append-nil done))
