-- The papers' numbers of the refusals of a script: L1.
-- Assumes nothing.
use Rattle.std.specs.Prelude.{ℕ}
use Rattle.script.specs.declared.LineRefusal.{LineRefusal}
use Rattle.script.specs.declared.ScriptRefusal.{ScriptRefusal}

-- "15, over 200 bytes", "14, another shape"
abbrev pub line_refusal_number : LineRefusal → ℕ
line_refusal_number LineRefusal.TooLong = 15
line_refusal_number LineRefusal.OtherShape = 14

-- "2 for the hub's address, first"; "8 last"
abbrev pub script_refusal_number : ScriptRefusal → ℕ
script_refusal_number ScriptRefusal.AddressOutOfRange = 2
script_refusal_number (ScriptRefusal.Line refused) = line_refusal_number refused.refusal
script_refusal_number ScriptRefusal.NoRoom = 8
