-- How the contracts of the private functions are stated: no rule of the papers.
-- Assumes nothing.
use Rattle.std.specs.Prelude.{◌≡◌, true, Result, Ok, Err, List, ℕ, suc, ◌+◌, ◌≤◌, ◌<◌, length, get_or, take, drop}
use Rattle.calls.specs.ScriptLines.{calls_in}
use Rattle.script.specs.declared.LineRefusal.{LineRefusal}
use Rattle.script.specs.declared.RefusedLine.{RefusedLine}
use Rattle.script.specs.declared.text.TakenLine.{TakenLine}
use Rattle.laws.specs.Reply.{Reply, refused_at, given}
use Rattle.buffers.specs.Putting.{Puts}
use Rattle.registers.specs.Bursts.{RegisterWrite}
use Rattle.registers.specs.declared.power_up.PowerUp.{PowerUp}
use Rattle.script.specs.Traces.{write_records, trace_of}
use Rattle.script.specs.Grammar.{no_line_feed}
use Rattle.script.specs.Reading.{joined_to, parts_of, calls_from, script_calls}
use Rattle.script.specs.Refusals.{line_refusal_number}

-- so many bytes stand before the first line feed of a text, or in all
pub record FirstScriptLine (text : List ℕ) (count : ℕ) : Type 0 where
  pub within : count ≤ length text
  pub before : no_line_feed (take count text) ≡ true
  pub ended : count < length text → get_or text count 0 ≡ 10

-- a line was taken: its calls are the text's first, whatever its number
pub record TakenScriptLine (text : List ℕ) (line : TakenLine) : Type 0 where
  pub within : line.length < length text
  pub calls : (number : ℕ) → calls_from number (parts_of text)
      ≡ joined_to (calls_in line.call) (calls_from (suc number) (parts_of (drop (line.length + 1) text)))

-- what the next line of a text comes to: a refusal, or its calls and what follows
abbrev pub NextScriptLineOf : List ℕ → Result TakenLine LineRefusal → Type 0
NextScriptLineOf text (Ok line) = TakenScriptLine text line
NextScriptLineOf text (Err refusal) =
    (number : ℕ) → calls_from number (parts_of text) ≡ refused_at (line_refusal_number refusal) number

-- the paper's number and value for each case of the count
abbrev pub call_count_reply : Result ℕ RefusedLine → Reply ℕ
call_count_reply (Ok count) = given count
call_count_reply (Err refused) = refused_at (line_refusal_number refused.refusal) refused.line

-- the records of the calls of a text that is taken were put
abbrev pub PutsCalls : List ℕ → List ℕ → ℕ → List ℕ → ℕ → Type 0
PutsCalls text before at after next =
    (calls : List RegisterWrite) → script_calls text ≡ given calls → Puts before at (write_records calls) after next

-- the trace of a text that is taken was put at the start
abbrev pub PutsTrace : ℕ → PowerUp → List ℕ → List ℕ → List ℕ → ℕ → Type 0
PutsTrace address start text before after next =
    (calls : List RegisterWrite) → script_calls text ≡ given calls
    → Puts before 0 (trace_of address start calls) after next
