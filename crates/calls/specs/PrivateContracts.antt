-- How the contracts of the private functions are stated: no rule of the papers.
-- Assumes nothing.
use Rattle.std.specs.Prelude.{Option as Answer, None, Some, List, [], ◌∷◌, ℕ, drop}
use Rattle.std.proofs.Math.Option.{Option, none, some}
use Rattle.registers.specs.Bursts.{RegisterWrite}
use Rattle.calls.specs.declared.Call.{Call}
use Rattle.calls.specs.declared.scan.ScannedValue.{ScannedValue}
use Rattle.calls.specs.ScriptLines.{ValueAndRest, write_of}

-- what is left of the line at the place that was answered
abbrev pub rest_at : List ℕ → Answer ℕ → Option (List ℕ)
rest_at line None = none
rest_at line (Some place) = some (drop place line)

abbrev pub value_and_rest_at : List ℕ → Answer ScannedValue → ValueAndRest
value_and_rest_at line None = record { value = 0; rest = none }
value_and_rest_at line (Some scanned) = record { value = scanned.value; rest = some (drop scanned.next line) }

-- the one call of a line
abbrev pub call_found : Answer Call → Option (List RegisterWrite)
call_found None = none
call_found (Some call) = some (write_of call ∷ [])
