-- The line that is named for a register is the script's line that set it, and it alone explains what the register holds
-- when the script was run. For a trace the same, by its records.
-- Assumes nothing.
use Rattle.std.specs.Prelude.{◌≡◌, true, List, ℕ, ◌≤◌, length}
use Rattle.laws.specs.Reply.{given}
use Rattle.laws.specs.MaskedWrites.{masked}
use Rattle.registers.specs.RegisterMap.{mask_of}
use Rattle.registers.specs.declared.power_up.PowerUp.{PowerUp}
use Rattle.registers.specs.PowerUps.{power_up_file}
use Rattle.hub.specs.Hubs.{is_hub_address}
use Rattle.origins.specs.declared.RegistersWithOrigins.{RegistersWithOrigins}
use Rattle.origins.specs.declared.NumberedWrite.{NumberedWrite}
use Rattle.origins.specs.Origins.{Register, offset_of, IsRegister, value_at, NoneReaches, LastReaching}
use Rattle.origins.specs.KeptOrigins.{kept_number, write_numbered_each, start_with}
use Rattle.script.specs.Reading.{script_trace}
use Rattle.scriptwrites.specs.NumberedCalls.{numbered_calls, InItsLine}
use Rattle.tracewrites.specs.TraceWrites.{TraceWrites, trace_writes, InItsRecord}
use Rattle.playback.specs.Playing.{end_hub}

-- what is kept while the writes are gone through, from the hub's start on: the registers, and a number for each of them
-- (`EveryPartKept` of findings)
abbrev pub kept_after : PowerUp → List NumberedWrite → RegistersWithOrigins
kept_after start writes = write_numbered_each (start_with (power_up_file start)) writes

-- the write of a value to a register's offset
abbrev pub write_to : Register → ℕ → ℕ → NumberedWrite
write_to register number value = record { number = number; offset = offset_of register; value = value }

-- The write that has the number set the register: it stands in the line of the script, or the record of the trace, that
-- has its number (which of them, `Stands` says); it goes to the register's offset with some value; it is the last that
-- reached the register; and "at the end the register holds its start value with the writable bits of that one write,
-- whatever the others were".
pub record SetBy (Stands : NumberedWrite → Type 0) (start : PowerUp) (writes : List NumberedWrite)
    (register : Register) (number held : ℕ) : Type 0 where
  pub value : ℕ
  pub stands : Stands (write_to register number value)
  pub last : LastReaching (power_up_file start) writes register (write_to register number value)
  pub holds : held ≡ masked (mask_of (offset_of register)) (value_at (power_up_file start) register) value

-- What the number of a register says of what it holds: 0 exactly where no write reached the register, and then it holds
-- its start value; any other number is that of the write that set it.
pub record Explained (Stands : NumberedWrite → Type 0) (start : PowerUp) (writes : List NumberedWrite)
    (register : Register) (number held : ℕ) : Type 0 where
  pub only_unset : number ≡ 0 → NoneReaches (power_up_file start) writes register
  pub every_unset : NoneReaches (power_up_file start) writes register → number ≡ 0
  pub unset : number ≡ 0 → held ≡ value_at (power_up_file start) register
  pub set : 1 ≤ number → SetBy Stands start writes register number held

-- The player ends with a hub that has that address and the registers that are kept, and each of these is explained.
pub record EndExplained (Stands : NumberedWrite → Type 0) (trace : List ℕ) (taken : TraceWrites) : Type 0 where
  pub address : (end_hub trace).address ≡ taken.hub
  pub registers : (end_hub trace).registers ≡ (kept_after taken.start taken.writes).registers
  pub each : (register : Register) → IsRegister register
      → Explained Stands taken.start taken.writes register
      (kept_number (kept_after taken.start taken.writes) register) (value_at (end_hub trace).registers register)

-- A script is run: its trace is made, in any buffer that has room for it, and played. Its lines explain the end.
pub record ScriptRun (address : ℕ) (start : PowerUp) (text : List ℕ) (writes : List NumberedWrite) : Type 0 where
  pub trace : List ℕ
  pub made : (room : ℕ) → length trace ≤ room → script_trace address start text room ≡ given trace
  pub explained : EndExplained (InItsLine text) trace (record { hub = address; start = start; writes = writes })

-- So for every script that is taken, with every address that a hub may have and either start.
abbrev pub ScriptExplained : Type 0
ScriptExplained =
    (address : ℕ) (start : PowerUp) (text : List ℕ) (writes : List NumberedWrite) → is_hub_address address ≡ true
    → numbered_calls text ≡ given writes → ScriptRun address start text writes

-- And every trace that is taken is explained by its records.
abbrev pub TraceExplained : Type 0
TraceExplained =
    (trace : List ℕ) (taken : TraceWrites) → trace_writes trace ≡ given taken
    → EndExplained (InItsRecord trace) trace taken
