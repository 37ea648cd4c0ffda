-- Answers that do not end the player's run: those to a record after the first that are not refused 13.
-- Assumes nothing.
use mathlib.Core.Path.{◌≡◌, refl}
use mathlib.Core.Bool.{false, and-false}
use mathlib.Core.List.{List, [], ◌∷◌}
use mathlib.Core.Logic.{⊎_elim}
use mathlib.Core.Option.{Option}
use Prim.Native.Nat.{ℕ, ◌+◌}
use native.Mathlib.Omega.{arith}
use borrow.Author.Tests.{eqb-false, ne_eqb}
use lib.Dec.{eqb}
use Rattle.laws.specs.Reply.{Reply, refused_with, given, on_reply}
use Rattle.hub.specs.declared.Hub.{Hub}
use Rattle.translation.specs.Translation.{who_hears_write, who_answers_read}
use Rattle.translation.proofs.Refusals.{write_refused, read_refused}
use Rattle.frames.specs.Events.{Event, Outcome, event_reply}
use Rattle.frames.proofs.EventRefusals.{event_refused}
use Rattle.answers.specs.Answers.{Answer, write_heard, read_answered}
use Rattle.playedwrites.specs.PlayedWrites.{ends_run}

-- an answer to the record with that number that does not end the run, and answers of which none does
abbrev pub NotEnding : ℕ → Reply Answer → Type 0
NotEnding number (refused_with refusal detail) = ends_run refusal number ≡ false
NotEnding number (given answer) = Unit

abbrev pub NoneEnds : ℕ → List (Reply Answer) → Type 0
NoneEnds records [] = Unit
NoneEnds records (answer ∷ answers) = NotEnding (records + 1) answer × NoneEnds (records + 1) answers

-- an answer to a later record than the first, which is not refused 13
module _ (records : ℕ) (later : eqb records 0 ≡ false) where
  not-ending : (refusal : ℕ) → (refusal ≡ 13 → ⊥) → ends_run refusal (records + 1) ≡ false
  not-ending refusal other =
      let ne = eqb-false records 0 later in
      rw (ne_eqb refusal 13 other, ne_eqb (records + 1) 1 (λ e. ne (omega arith)), and-false (eqb refusal 2))

  on_not_ending : {A : Type 0} (f : A → Answer) (reply : Reply A)
      → ((refusal : ℕ) (detail : Option ℕ) → reply ≡ refused_with refusal detail → refusal ≡ 13 → ⊥)
      → NotEnding (records + 1) (on_reply f reply)
  on_not_ending f (refused_with refusal detail) other = not-ending refusal (other refusal detail refl)
  on_not_ending f (given a) other = tt

  pub write_not_ending : (hub : Hub) (address : ℕ)
      → NotEnding (records + 1) (on_reply (write_heard address) (who_hears_write hub address))
  write_not_ending hub address =
      on_not_ending (write_heard address) (who_hears_write hub address)
      (λ refusal detail e thirteen. let two = write_refused hub address e in omega arith)

  pub read_not_ending : (hub : Hub) (address : ℕ)
      → NotEnding (records + 1) (on_reply (read_answered address) (who_answers_read hub address))
  read_not_ending hub address =
      on_not_ending (read_answered address) (who_answers_read hub address)
      (λ refusal detail e thirteen. ⊎_elim (λ q. omega arith) (λ q. omega arith) (read_refused hub address e))

  pub event_not_ending : (hub : Hub) (event : Event) (size : ℕ) (f : Outcome (List ℕ) → Answer)
      → NotEnding (records + 1) (on_reply f (event_reply hub event size 0))
  event_not_ending hub event size f =
      on_not_ending f (event_reply hub event size 0)
      (λ refusal detail e thirteen. let small = event_refused hub event size 0 e in omega arith)
