-- How a text is read: its lines, the calls in them, and the first refusal (L1, L5).
-- Assumes nothing.
use Rattle.std.specs.Prelude.{Bool, true, false, cond, Result, Ok, Err, List, [], ◌∷◌, ◌++◌, ℕ, suc, eqb, ltb, length}
use Rattle.std.proofs.Math.Option.{Option, none, some}
use Rattle.laws.specs.Reply.{Reply, refused, refused_at, refused_with, given, on_reply, and_then}
use Rattle.laws.specs.Buffers.{if_room}
use Rattle.registers.specs.Bursts.{RegisterWrite}
use Rattle.registers.specs.declared.power_up.PowerUp.{PowerUp}
use Rattle.hub.specs.Hubs.{is_hub_address}
use Rattle.calls.specs.ScriptLines.{script_line_read}
use Rattle.script.specs.declared.ScriptRefusal.{ScriptRefusal}
use Rattle.script.specs.Grammar.{longest_script_line}
use Rattle.script.specs.Refusals.{line_refusal_number}
use Rattle.script.specs.Traces.{trace_of}

-- one more byte before the first part
unfoldable pub with_byte : ℕ → List (List ℕ) → List (List ℕ)
with_byte byte [] = (byte ∷ []) ∷ []
with_byte byte (part ∷ parts) = (byte ∷ part) ∷ parts

-- the parts of a text between its line feeds: the lines, and last what follows the last line feed
unfoldable pub parts_of : List ℕ → List (List ℕ)
parts_of [] = [] ∷ []
parts_of (byte ∷ bytes) = cond (eqb byte 10) ([] ∷ parts_of bytes) (with_byte byte (parts_of bytes))

-- "14, another shape"
abbrev pub shape_reply : Option (List RegisterWrite) → Reply (List RegisterWrite)
shape_reply none = refused 14
shape_reply (some calls) = given calls

-- "by line 15, over 200 bytes, before 14, another shape, each with the line's number"
unfoldable pub script_line_reply : List ℕ → Reply (List RegisterWrite)
script_line_reply line = cond (ltb longest_script_line (length line)) (refused 15) (shape_reply (script_line_read line))

-- "Each line ends in one line feed": what follows the last line feed is nothing, or a line without one;
-- that is 15 where it is over 200 bytes, otherwise 14 (ours)
unfoldable pub rest_reply : ℕ → List ℕ → Reply (List RegisterWrite)
rest_reply number rest =
    cond (eqb (length rest) 0) (given []) (refused_at (cond (ltb longest_script_line (length rest)) 15 14) number)

abbrev pub joined_to : List RegisterWrite → Reply (List RegisterWrite) → Reply (List RegisterWrite)
joined_to here next = on_reply (λ (later : List RegisterWrite). here ++ later) next

abbrev pub script_line_then : ℕ → Reply (List RegisterWrite) → Reply (List RegisterWrite) → Reply (List RegisterWrite)
script_line_then line (refused_with number detail) next = refused_at number line
script_line_then line (given here) next = joined_to here next

abbrev pub is_last : List (List ℕ) → Bool
is_last [] = true
is_last (part ∷ parts) = false

-- the calls of the parts, of which the first has that number
unfoldable pub calls_from : ℕ → List (List ℕ) → Reply (List RegisterWrite)
calls_from number [] = given []
calls_from number (part ∷ parts) =
    cond (is_last parts) (rest_reply number part)
    (script_line_then number (script_line_reply part) (calls_from (suc number) parts))

-- the calls of a text, or its first refusal
unfoldable pub script_calls : List ℕ → Reply (List RegisterWrite)
script_calls text = calls_from 1 (parts_of text)

-- the trace of calls, from the start of a buffer of that size; "8 last"
abbrev pub trace_if_room : ℕ → PowerUp → ℕ → Reply (List RegisterWrite) → Reply (List ℕ)
trace_if_room address start size calls = and_then calls (λ taken. if_room size 0 (trace_of address start taken))

-- the trace of a text: "2 for the hub's address, first; then by line 15 [...] before 14 [...]; 8 last"
unfoldable pub script_trace : ℕ → PowerUp → List ℕ → ℕ → Reply (List ℕ)
script_trace address start text size =
    cond (is_hub_address address) (trace_if_room address start size (script_calls text)) (refused 2)

-- the paper's number and values for each case of the answer
abbrev pub trace_answer_reply : Result ℕ ScriptRefusal → Reply ℕ
trace_answer_reply (Ok bytes) = given bytes
trace_answer_reply (Err ScriptRefusal.AddressOutOfRange) = refused 2
trace_answer_reply (Err (ScriptRefusal.Line line)) = refused_at (line_refusal_number line.refusal) line.line
trace_answer_reply (Err ScriptRefusal.NoRoom) = refused 8
