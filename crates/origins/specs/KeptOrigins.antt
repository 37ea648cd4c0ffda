-- How the origins are kept beside the registers: a write puts its number at each register that it reaches.
-- Assumes nothing.
use Rattle.std.specs.Prelude.{◌≡◌, ℕ, ◌≤◌, cond, List, [], ◌∷◌, map, replicate, nat_lt, slice_index, slice_index_or}
use Rattle.std.specs.Prelude.{slice_set}
use mathlib.Core.List.{Memᴰ}
use Rattle.std.proofs.Math.Option.{Option, none, some}
use Rattle.registers.specs.declared.RegisterFile.{RegisterFile}
use Rattle.registers.specs.declared.PageAccess.TheVariants.{Selection}
use Rattle.registers.specs.Bursts.{write_burst}
use Rattle.origins.specs.declared.OffsetOrigins.{OffsetOrigins}
use Rattle.origins.specs.declared.RegistersWithOrigins.{RegistersWithOrigins}
use Rattle.origins.specs.declared.NumberedWrite.{NumberedWrite}
use Rattle.origins.specs.NumberedWrites.{numbered_burst}
use Rattle.origins.specs.Origins.{Register, shared_register, port_register, offset_of, IsRegister}
use Rattle.origins.specs.Origins.{reaches, after_numbered, after_each, origin_of, NoneReaches, LastReaching}

-- 0 for none
abbrev pub no_origins : OffsetOrigins
no_origins = record { shared = 0; ports = replicate 4 0 }

-- past the last offset there is no register
abbrev pub past_last : OffsetOrigins
past_last = record { shared = 0; ports = [] }

-- of a port above 3 there is none
abbrev pub port_origin : OffsetOrigins → ℕ → ℕ
port_origin origins port = cond (nat_lt 3 port) 0 (slice_index origins.ports port)

-- the number kept for a register
abbrev pub number_in : OffsetOrigins → Register → ℕ
number_in origins (shared_register offset) = origins.shared
number_in origins (port_register port offset) = port_origin origins port

unfoldable pub kept_number : RegistersWithOrigins → Register → ℕ
kept_number state register = number_in (slice_index_or state.origins (offset_of register) past_last) register

-- the number of a write to an offset where it reaches the register, or else the number before
abbrev pub number_after : RegisterFile → ℕ → ℕ → Register → ℕ → ℕ
number_after file number at register before = cond (reaches file at register) number before

-- the number of a port after the write
abbrev pub port_after : RegisterFile → ℕ → ℕ → OffsetOrigins → ℕ → ℕ
port_after file number at before port = number_after file number at (port_register port at) (port_origin before port)

-- the numbers at the offset of the write
unfoldable pub origins_after : RegisterFile → ℕ → ℕ → OffsetOrigins → OffsetOrigins
origins_after file number at before =
    record {
      shared = number_after file number at (shared_register at) before.shared;
      ports = map (port_after file number at before) (0 ∷ 1 ∷ 2 ∷ 3 ∷ []);
    }

unfoldable pub write_numbered : RegistersWithOrigins → NumberedWrite → RegistersWithOrigins
write_numbered state write =
    let file = state.registers in
    let at = write.offset in
    record {
      registers = after_numbered file write;
      origins =
          slice_set state.origins at (origins_after file write.number at (slice_index_or state.origins at past_last));
    }

unfoldable pub write_numbered_each : RegistersWithOrigins → List NumberedWrite → RegistersWithOrigins
write_numbered_each state [] = state
write_numbered_each state (write ∷ writes) = write_numbered_each (write_numbered state write) writes

-- no register has been written
unfoldable pub start_with : RegisterFile → RegistersWithOrigins
start_with file = record { registers = file; origins = replicate 256 no_origins }

-- the number of an origin
abbrev pub number_of : Option NumberedWrite → ℕ
number_of none = 0
number_of (some write) = write.number

-- After any writes from any start, the registers are as the register file has them after these writes, and the number
-- kept for each register is that of the last write that reached it, 0 for none.
pub record OriginsKept (start : RegisterFile) (writes : List NumberedWrite) : Type 0 where
  pub registers : (write_numbered_each (start_with start) writes).registers ≡ after_each start writes
  pub numbers : (register : Register) → IsRegister register
      → kept_number (write_numbered_each (start_with start) writes) register ≡ number_of (origin_of start writes register)

abbrev pub EveryOriginKept : Type 0
EveryOriginKept = (start : RegisterFile) (writes : List NumberedWrite) → OriginsKept start writes

-- lines and records are counted from 1
abbrev pub CountedFromOne : List NumberedWrite → Type 0
CountedFromOne writes = (write : NumberedWrite) → Memᴰ write writes → 1 ≤ write.number

-- the number is 0 exactly where no write reaches the register, and otherwise that of the last write that reaches it
pub record NumberMeans (start : RegisterFile) (writes : List NumberedWrite) (register : Register) (number : ℕ)
    : Type 0 where
  pub only_none : number ≡ 0 → NoneReaches start writes register
  pub every_none : NoneReaches start writes register → number ≡ 0
  pub only_last : 1 ≤ number
      → (write : NumberedWrite) × LastReaching start writes register write × (write.number ≡ number)
  pub every_last : (write : NumberedWrite) → LastReaching start writes register write → write.number ≡ number

-- So the number kept for a register tells all of its origin, from any start and after any writes.
abbrev pub EveryNumberMeans : Type 0
EveryNumberMeans =
    (start : RegisterFile) (writes : List NumberedWrite) → CountedFromOne writes
    → (register : Register) → IsRegister register
    → NumberMeans start writes register (kept_number (write_numbered_each (start_with start) writes) register)

-- A burst with one number writes the registers as a burst does.
abbrev pub BurstRegisters : Type 0
BurstRegisters =
    (state : RegistersWithOrigins) (number offset : ℕ) (values : List ℕ)
    → (write_numbered_each state (numbered_burst number offset values)).registers
    ≡ write_burst Selection state.registers offset values
