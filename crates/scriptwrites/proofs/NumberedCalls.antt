-- The calls of a script with the numbers of their lines: without them they are the script's, and the numbers rise.
-- Assumes nothing.
use mathlib.Core.Path.{◌≡◌, refl, sym, ap, ◌∙◌}
use mathlib.Core.Bool.{Bool, true, false, cond}
use mathlib.Core.List.{List, [], ◌∷◌, ◌++◌}
use Prim.Native.Nat.{ℕ, suc, ◌+◌, ◌<◌}
use native.Mathlib.Omega.{arith}
use borrow.Author.Tests.{ne_eqb}
use lib.ListN.{length, take, drop}
use Rattle.laws.specs.Reply.{Reply, refused_at, refused_with, given, on_reply}
use Rattle.laws.proofs.Absurd.{zero_not_one}
use Rattle.laws.proofs.Replies.{refused_given, on_given}
use Rattle.registers.specs.Bursts.{RegisterWrite}
use Rattle.origins.specs.declared.NumberedWrite.{NumberedWrite}
use Rattle.origins.specs.NumberedWrites.{unnumbered_writes, numbered_as}
use Rattle.origins.proofs.NumberedWrites.{unnumbered_append, unnumbered_as}
use Rattle.calls.specs.Grammar.{IsScriptLine, blank, called}
use Rattle.script.specs.Reading.{parts_of, script_line_reply, rest_reply, joined_to, script_line_then, is_last, calls_from, script_calls}
use Rattle.script.specs.FirstLines.{script_line_length, LineWithCalls, first_line_reply}
use Rattle.script.proofs.PartLaws.{parts_some}
use Rattle.script.proofs.GrammarLaws.{given_line}
use Rattle.script.proofs.FirstLineLaws.{first_found, either_line, parts_ended, parts_unended, rest_refused}
use Rattle.scriptwrites.specs.NumberedCalls.{numbered_line_then, numbered_from, numbered_calls, NumbersForgotten, Rising, NumbersRise}

-- numbers that are given and forgotten again
forgotten : (number : ℕ) (reply : Reply (List RegisterWrite)) → on_reply unnumbered_writes (on_reply (numbered_as number) reply) ≡ reply
forgotten number (refused_with refusal detail) = refl
forgotten number (given calls) = ap given (unnumbered_as number calls)

forgotten_joined : (number : ℕ) (here : List RegisterWrite) (later : Reply (List NumberedWrite))
    → on_reply unnumbered_writes (on_reply (λ (l : List NumberedWrite). numbered_as number here ++ l) later) ≡ joined_to here (on_reply unnumbered_writes later)
forgotten_joined number here (refused_with refusal detail) = refl
forgotten_joined number here (given later) =
    ap given (unnumbered_append (numbered_as number here) later ∙ ap (λ (l : List RegisterWrite). l ++ unnumbered_writes later) (unnumbered_as number here))

forgotten_from : (number : ℕ) (parts : List (List ℕ)) → on_reply unnumbered_writes (numbered_from number parts) ≡ calls_from number parts
unfolding numbered_from calls_from unnumbered_writes
forgotten_from number [] = refl
forgotten_from number (part ∷ parts) = go (is_last parts) (script_line_reply part) (forgotten_from (suc number) parts)
  where
    go : (last : Bool) (reply : Reply (List RegisterWrite)) → on_reply unnumbered_writes (numbered_from (suc number) parts) ≡ calls_from (suc number) parts
        → on_reply unnumbered_writes (cond last (on_reply (numbered_as number) (rest_reply number part)) (numbered_line_then number reply (numbered_from (suc number) parts)))
        ≡ cond last (rest_reply number part) (script_line_then number reply (calls_from (suc number) parts))
    go true reply later = forgotten number (rest_reply number part)
    go false (refused_with refusal detail) later = refl
    go false (given here) later = forgotten_joined number here (numbered_from (suc number) parts) ∙ ap (joined_to here) later

pub numbers_forgotten : NumbersForgotten
unfolding numbered_calls script_calls
numbers_forgotten text = forgotten_from 1 (parts_of text)

-- after the last line feed nothing stands
rest_none : (number : ℕ) (rest : List ℕ) {calls : List RegisterWrite} → rest_reply number rest ≡ given calls
    → (rest ≡ []) × (calls ≡ [])
unfolding rest_reply
rest_none number [] e = (refl, cc)
rest_none number (byte ∷ rest) e =
    let left = ne_eqb (length (byte ∷ rest)) 0 (λ (h : length (byte ∷ rest) ≡ 0). omega arith) in zero_not_one (cc)

-- what holds of no lines, of nothing after the last line feed, and of a line's writes before others of which it holds,
-- holds of all that are given
module _ (P : ℕ → List (List ℕ) → List NumberedWrite → Type 0)
    (none : (number : ℕ) → P number [] []) (nothing : (number : ℕ) → P number ([] ∷ []) [])
    (more : (number : ℕ) (part : List ℕ) (parts : List (List ℕ)) (here : List RegisterWrite)
    (later : List NumberedWrite) → IsScriptLine part here → P (suc number) parts later
    → P number (part ∷ parts) (numbered_as number here ++ later)) where
  pub by_lines : (number : ℕ) (parts : List (List ℕ)) (writes : List NumberedWrite)
      → numbered_from number parts ≡ given writes → P number parts writes
  unfolding numbered_from numbered_as
  by_lines number [] writes e = let no_writes_lem : writes ≡ [] = cc in rw no_writes_lem (none number)
  by_lines number (part ∷ []) writes e =
      let found = on_given (numbered_as number) (rest_reply number part) (sym e) in
      let empty = rest_none number part found.1 in
      let no_writes_lem : writes ≡ [] = found.2 ∙ ap (numbered_as number) empty.1 in
      rw (empty.0, no_writes_lem) (nothing number)
  by_lines number (part ∷ next ∷ parts) writes e =
      go (script_line_reply part) refl (by_lines (suc number) (next ∷ parts))
    where
      rest : List (List ℕ)
      rest = next ∷ parts

      go : (reply : Reply (List RegisterWrite)) → script_line_reply part ≡ reply
          → ((later : List NumberedWrite) → numbered_from (suc number) rest ≡ given later → P (suc number) rest later)
          → P number (part ∷ rest) writes
      go (refused_with refusal detail) q ih = refused_given refl (rw q at e)
      go (given here) q ih =
          let found =
          on_given (λ (l : List NumberedWrite). numbered_as number here ++ l) (numbered_from (suc number) rest)
          (sym (rw q at e)) in
          rw found.2 (more number part rest here found.0 (given_line part here q).0 (ih found.0 found.1))

-- the numbers rise
abbrev RisingFrom : ℕ → List (List ℕ) → List NumberedWrite → Type 0
RisingFrom number parts writes = (before : ℕ) → before < number → Rising before writes

rising_line : (number : ℕ) (part : List ℕ) (parts : List (List ℕ)) (here : List RegisterWrite) (later : List NumberedWrite) → IsScriptLine part here
    → RisingFrom (suc number) parts later → RisingFrom number (part ∷ parts) (numbered_as number here ++ later)
unfolding numbered_as
rising_line number part parts (call ∷ (_ ∷ _)) later x7 rises before h = elim x7 [ ]
rising_line number part parts [] later (blank b) rises before h = rises before (omega arith)
rising_line number part parts (call ∷ []) later (called c) rises before h = (h, rises number (omega arith))

pub numbers_rise : NumbersRise
unfolding numbered_calls
numbers_rise text writes e =
    by_lines RisingFrom (λ number before h. tt) (λ number before h. tt) rising_line 1 (parts_of text) writes e 0
    (omega arith)

-- what the calls of a text come to by its first line
abbrev pub numbered_then : ℕ → List ℕ → Reply LineWithCalls → Reply (List NumberedWrite)
numbered_then number bytes (refused_with refusal detail) = refused_at refusal number
numbered_then number bytes (given line) =
    on_reply (λ (l : List NumberedWrite). numbered_as number line.calls ++ l) (numbered_from (suc number) (parts_of (drop (line.count + 1) bytes)))

pub numbered_first : (bytes : List ℕ) → 0 < length bytes → (number : ℕ) → numbered_from number (parts_of bytes) ≡ numbered_then number bytes (first_line_reply bytes)
unfolding numbered_from
numbered_first bytes byte number =
    let first = first_found bytes in
    either_line (λ r. numbered_from number (parts_of bytes) ≡ numbered_then number bytes r) bytes n first
    (λ h. rw (parts_ended bytes n first h, parts_some (drop (n + 1) bytes)) (shape (script_line_reply (take n bytes))))
    (λ h. rw (parts_unended bytes n first h, rest_refused bytes n first byte h number))
  where
    n : ℕ
    n = script_line_length bytes

    shape : (reply : Reply (List RegisterWrite)) → numbered_line_then number reply (numbered_from (suc number) (parts_of (drop (n + 1) bytes)))
        ≡ numbered_then number bytes (on_reply (λ (calls : List RegisterWrite). record { count = n; calls = calls }) reply)
    shape (refused_with refusal detail) = refl
    shape (given here) = refl
