-- The first line of bytes of a script, of which more may follow: whether they hold it whole, and what it comes to.
-- Assumes nothing.
use Rattle.std.specs.Prelude.{Bool, true, cond, Result, Ok, Err, List, [], ◌∷◌, ℕ, suc, eqb, ltb, length, take}
use Rattle.laws.specs.Reply.{Reply, refused, given, on_reply}
use Rattle.registers.specs.Bursts.{RegisterWrite}
use Rattle.calls.specs.ScriptLines.{calls_in}
use Rattle.script.specs.declared.LineRefusal.{LineRefusal}
use Rattle.script.specs.declared.text.TakenLine.{TakenLine}
use Rattle.script.specs.Grammar.{longest_script_line}
use Rattle.script.specs.Reading.{script_line_reply}
use Rattle.script.specs.Refusals.{line_refusal_number}

-- how many bytes stand before the first line feed (code 10), or in all
unfoldable pub script_line_length : List ℕ → ℕ
script_line_length [] = 0
script_line_length (byte ∷ bytes) = cond (eqb byte 10) 0 (suc (script_line_length bytes))

-- Whatever follows the bytes, what their first line comes to is known: they are over 200, or have its line feed.
abbrev pub holds_script_line : List ℕ → Bool
holds_script_line bytes =
    cond (ltb longest_script_line (length bytes)) true (ltb (script_line_length bytes) (length bytes))

-- A line that is taken: how many bytes it has, its line feed "not counted", and its calls.
pub record LineWithCalls : Type 0 where
  pub count : ℕ
  pub calls : List RegisterWrite

-- What the first line comes to. One without its line feed is 15 where it is over 200 bytes, otherwise 14, as at the
-- end of a text.
unfoldable pub first_line_reply : List ℕ → Reply LineWithCalls
first_line_reply bytes =
    let count = script_line_length bytes in
    cond (ltb count (length bytes))
    (on_reply (λ (calls : List RegisterWrite). record { count = count; calls = calls })
    (script_line_reply (take count bytes)))
    (refused (cond (ltb longest_script_line count) 15 14))

-- the paper's number and values for each case of the answer
abbrev pub taken_line_reply : Result TakenLine LineRefusal → Reply LineWithCalls
taken_line_reply (Ok line) = given (record { count = line.length; calls = calls_in line.call })
taken_line_reply (Err refusal) = refused (line_refusal_number refusal)
