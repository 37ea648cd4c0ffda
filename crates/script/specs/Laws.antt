-- Laws of reading a script: exactly the texts of the grammar are taken, each with one trace, and how long that can be.
-- Assumes nothing.
use Rattle.std.specs.Prelude.{◌≡◌, true, List, ℕ, ◌+◌, ◌*◌, ◌≤◌, length}
use Rattle.laws.specs.Reply.{refused, given}
use Rattle.hub.specs.Hubs.{is_hub_address}
use Rattle.registers.specs.Bursts.{RegisterWrite}
use Rattle.registers.specs.declared.power_up.PowerUp.{PowerUp}
use Rattle.script.specs.Traces.{trace_of, hub_length}
use Rattle.script.specs.Grammar.{Script}
use Rattle.script.specs.Reading.{script_calls, script_trace}

-- a text is read, with its calls, exactly where it is a script
pub record ScriptsTaken (text : List ℕ) (calls : List RegisterWrite) : Type 0 where
  pub every : Script text calls → script_calls text ≡ given calls
  pub only : script_calls text ≡ given calls → Script text calls

-- Such a text: a script, with an address that a hub may have and room for the trace of the script's calls.
pub record SuchText (address : ℕ) (start : PowerUp) (text : List ℕ) (size : ℕ) (trace : List ℕ) : Type 0 where
  pub calls : List RegisterWrite
  pub script : Script text calls
  pub made : trace ≡ trace_of address start calls
  pub allowed : is_hub_address address ≡ true
  pub room : length trace ≤ size

-- it is taken, with its trace, and no other is
pub record TextTaken (address : ℕ) (start : PowerUp) (text : List ℕ) (size : ℕ) (trace : List ℕ) : Type 0 where
  pub every : SuchText address start text size trace → script_trace address start text size ≡ given trace
  pub only : script_trace address start text size ≡ given trace → SuchText address start text size trace

-- "Exactly such texts are taken", of every text, address, start and size of the buffer: over `script_trace`, which the
-- contract of `script::to_trace` cites
abbrev pub ExactlySuchTexts : Type 0
ExactlySuchTexts =
    (address : ℕ) (start : PowerUp) (text : List ℕ) (size : ℕ) (trace : List ℕ)
    → TextTaken address start text size trace

-- "and each has one trace": it has one list of calls, from which `trace_of` makes the trace
abbrev pub OneTrace : Type 0
OneTrace =
    (text : List ℕ) (calls others : List RegisterWrite) → Script text calls → Script text others → calls ≡ others

-- After its hub record a trace has at most a third of the text's bytes. (No rule of the papers.)
abbrev pub TraceIsShort : Type 0
TraceIsShort =
    (address : ℕ) (start : PowerUp) (text : List ℕ) (calls : List RegisterWrite) → Script text calls
    → 3 * length (trace_of address start calls) ≤ 3 * hub_length start + length text

-- So 8 is not given where there is room for the hub record and a third of the text. (No rule of the papers.)
abbrev pub NoEight : Type 0
NoEight =
    (address : ℕ) (start : PowerUp) (text : List ℕ) (size : ℕ) → 3 * hub_length start + length text ≤ 3 * size
    → script_trace address start text size ≡ refused 8 → ⊥
