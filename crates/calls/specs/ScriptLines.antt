-- How a script line is read, token by token (L1), and the law that exactly the lines of the grammar are read.
-- Assumes nothing.
use Rattle.std.specs.Prelude.{◌≡◌, Bool, cond, List, [], ◌∷◌, ℕ, ◌+◌, ◌*◌, eqb, ltb, get_or, drop}
use Rattle.std.specs.Prelude.{Result, Ok, Err, Option as Answer, None, Some}
use Rattle.std.proofs.Math.Option.{Option, none, some}
use Rattle.laws.specs.Texts.{ascii}
use Rattle.calls.specs.declared.Call.{Call}
use Rattle.calls.specs.declared.OtherShape.{OtherShape}
use Rattle.registers.specs.Bursts.{RegisterWrite}
use Rattle.calls.specs.Grammar.{is_blank, digit_value, is_comment_or_none, IsScriptLine}

-- what follows the spaces and tabs at the start
unfoldable pub after_blanks : List ℕ → List ℕ
after_blanks [] = []
after_blanks (byte ∷ bytes) = cond (is_blank byte) (after_blanks bytes) (byte ∷ bytes)

-- what follows a word, where the text starts with it
unfoldable pub after_prefix : List ℕ → List ℕ → Option (List ℕ)
after_prefix [] bytes = some bytes
after_prefix (letter ∷ letters) [] = none
after_prefix (letter ∷ letters) (byte ∷ bytes) = cond (eqb byte letter) (after_prefix letters bytes) none

-- the same after spaces and tabs, where the text was of the grammar so far
unfoldable pub after_token : List ℕ → Option (List ℕ) → Option (List ℕ)
after_token word none = none
after_token word (some bytes) = after_prefix word (after_blanks bytes)

-- A value, and what follows it where there is one.
pub record ValueAndRest : Type 0 where
  pub value : ℕ
  pub rest : Option (List ℕ)

-- two hex digits where two stand there, otherwise one
unfoldable pub digits_read : Option (List ℕ) → ValueAndRest
digits_read none = record { value = 0; rest = none }
digits_read (some bytes) =
    let high = digit_value (get_or bytes 0 0) in
    let low = digit_value (get_or bytes 1 0) in
    cond (ltb high 16)
    (cond (ltb low 16) (record { value = 16 * high + low; rest = some (drop 2 bytes) })
    (record { value = high; rest = some (drop 1 bytes) }))
    (record { value = 0; rest = none })

unfoldable pub value_read : Option (List ℕ) → ValueAndRest
value_read rest = digits_read (after_token (ascii "0x") rest)

-- the line ends here, but for spaces, tabs and a comment
abbrev pub script_line_ends : List ℕ → Bool
script_line_ends bytes = is_comment_or_none (after_blanks bytes)

unfoldable pub call_if_ended : Option (List ℕ) → RegisterWrite → Option (List RegisterWrite)
call_if_ended none call = none
call_if_ended (some bytes) call = cond (script_line_ends bytes) (some (call ∷ [])) none

-- one call
unfoldable pub call_read : List ℕ → Option (List RegisterWrite)
call_read line =
    let offset = value_read (after_token (ascii "(") (after_token (ascii "WriteI2C") (some line))) in
    let value = value_read (after_token (ascii ",") offset.rest) in
    call_if_ended (after_token (ascii ")") value.rest) (record { offset = offset.value; value = value.value })

-- the calls of a line, none or one, or that it has "another shape"
unfoldable pub script_line_read : List ℕ → Option (List RegisterWrite)
script_line_read line = cond (script_line_ends line) (some []) (call_read line)

-- the register write that a call makes
abbrev pub write_of : Call → RegisterWrite
write_of call = record { offset = call.offset; value = call.value }

-- the calls of an answer: none where the line is blank
abbrev pub calls_in : Answer Call → List RegisterWrite
calls_in None = []
calls_in (Some call) = write_of call ∷ []

-- the calls of what was read: of a line of another shape there are none
abbrev pub calls_in_read : Result (Answer Call) OtherShape → List RegisterWrite
calls_in_read (Err other) = []
calls_in_read (Ok call) = calls_in call

-- the calls for each case of the answer, or that the line has another shape
abbrev pub calls_of : Result (Answer Call) OtherShape → Option (List RegisterWrite)
calls_of (Err other) = none
calls_of (Ok call) = some (calls_in call)

-- A law: a line is read exactly where it is one of the grammar.
pub record ScriptLinesTaken (line : List ℕ) (calls : List RegisterWrite) : Type 0 where
  pub every : IsScriptLine line calls → script_line_read line ≡ some calls
  pub only : script_line_read line ≡ some calls → IsScriptLine line calls
