-- The calls of a script with the numbers of their lines: "A script's register writes are numbered by their line".
-- Assumes nothing.
use Rattle.std.specs.Prelude.{◌≡◌, cond, List, [], ◌∷◌, ◌++◌, ℕ, suc, ◌-◌, ◌≤◌, ◌<◌, get_or}
use Rattle.laws.specs.Reply.{Reply, refused_at, refused_with, given, on_reply}
use Rattle.registers.specs.Bursts.{RegisterWrite}
use Rattle.origins.specs.declared.NumberedWrite.{NumberedWrite}
use Rattle.origins.specs.NumberedWrites.{unnumbered, unnumbered_writes, numbered_as, NumbersMean}
use Rattle.calls.specs.Grammar.{IsScriptLine}
use Rattle.script.specs.Reading.{parts_of, script_line_reply, rest_reply, is_last, script_calls}

-- a line's refusal with its number, or the line's calls before those of the lines after it: `script_line_then`, with
-- numbers
abbrev pub numbered_line_then : ℕ → Reply (List RegisterWrite) → Reply (List NumberedWrite) → Reply (List NumberedWrite)
numbered_line_then line (refused_with number detail) next = refused_at number line
numbered_line_then line (given here) next = on_reply (λ (later : List NumberedWrite). numbered_as line here ++ later) next

-- the calls of the parts, of which the first has that number: `calls_from`, with numbers
unfoldable pub numbered_from : ℕ → List (List ℕ) → Reply (List NumberedWrite)
numbered_from number [] = given []
numbered_from number (part ∷ parts) =
    cond (is_last parts) (on_reply (numbered_as number) (rest_reply number part))
    (numbered_line_then number (script_line_reply part) (numbered_from (suc number) parts))

-- the calls of a text, or its first refusal; every line counts, from 1, also one that is blank or a comment
unfoldable pub numbered_calls : List ℕ → Reply (List NumberedWrite)
numbered_calls text = numbered_from 1 (parts_of text)

-- A law: without their numbers they are the calls of the text. So the same texts are taken, and each other one has the
-- same refusal with the same line.
abbrev pub NumbersForgotten : Type 0
NumbersForgotten = (text : List ℕ) → on_reply unnumbered_writes (numbered_calls text) ≡ script_calls text

-- each number is over the one before it, the first over `before`
abbrev pub Rising : ℕ → List NumberedWrite → Type 0
Rising before [] = Unit {0}
Rising before (write ∷ writes) = (before < write.number) × Rising write.number writes

-- A law: the numbers rise strictly, from 1 on.
abbrev pub NumbersRise : Type 0
NumbersRise = (text : List ℕ) (writes : List NumberedWrite) → numbered_calls text ≡ given writes → Rising 0 writes

-- the line that has a number, counted from 1
abbrev pub line_numbered : ℕ → List ℕ → List ℕ
line_numbered number text = get_or (parts_of text) (number - 1) []

-- the write is the call of the line that has its number
pub record InItsLine (text : List ℕ) (write : NumberedWrite) : Type 0 where
  pub counted : 1 ≤ write.number
  pub called : IsScriptLine (line_numbered write.number text) (unnumbered write ∷ [])

-- A law: the numbers of a script's writes are those of its lines.
abbrev pub NumbersAreLines : Type 0
NumbersAreLines =
    (text : List ℕ) (writes : List NumberedWrite) → numbered_calls text ≡ given writes
    → NumbersMean (InItsLine text) writes
