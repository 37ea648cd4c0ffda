-- What every question and every event is answered: a refusal, or what was asked for.
-- Assumes nothing.
use Rattle.std.specs.Prelude.{Bool, true, false, ℕ, Result, Ok, Err}
use Rattle.std.proofs.Math.Option.{Option, none, some}

-- a refusal has its number in the papers and, where they give one, a detail: with 14 and 15 the number of the line
pub data Reply (A : Type 0) : Type 0 where
  refused_with : (number : ℕ) (detail : Option ℕ) → Reply A
  given : A → Reply A

abbrev pub refused : {A : Type 0} → ℕ → Reply A
refused number = refused_with number none

abbrev pub refused_at : {A : Type 0} → ℕ → ℕ → Reply A
refused_at number detail = refused_with number (some detail)

-- the same answer, with what was asked for turned into something else
abbrev pub on_reply : {A B : Type 0} → (A → B) → Reply A → Reply B
on_reply f (refused_with number detail) = refused_with number detail
on_reply f (given a) = given (f a)

-- the first refusal counts; otherwise what follows from what was asked for
abbrev pub and_then : {A B : Type 0} → Reply A → (A → Reply B) → Reply B
and_then (refused_with number detail) next = refused_with number detail
and_then (given a) next = next a

abbrev pub is_refused : {A : Type 0} → Reply A → Bool
is_refused (refused_with number detail) = true
is_refused (given a) = false

-- a refusal has its number by `number`; what was asked for is given
abbrev pub reply_by : {A E : Type 0} → (E → ℕ) → Result A E → Reply A
reply_by number (Ok a) = given a
reply_by number (Err e) = refused (number e)
