-- Which of a list of register writes each register has its value from: the last one that reached it.
-- Assumes nothing.
use Rattle.std.specs.Prelude.{◌≡◌, ℕ, ◌<◌, Bool, true, false, cond, not, ◌&&◌, List, [], ◌∷◌, ◌++◌, length, ◌==◌}
use Rattle.std.proofs.Math.Option.{Option, none, some}
use Rattle.laws.specs.Bits.{bit}
use Rattle.laws.specs.Elements.{AreBytes}
use Rattle.laws.specs.MaskedWrites.{masked}
use Rattle.registers.specs.declared.RegisterFile.{RegisterFile}
use Rattle.registers.specs.declared.PageAccess.TheVariants.{Selection}
use Rattle.registers.specs.RegisterMap.{mask_of, per_port}
use Rattle.registers.specs.declared.power_up.PowerUp.{PowerUp}
use Rattle.registers.specs.RegisterFiles.{shared_at, page_at, reset_file, selection, write_register}
use Rattle.registers.specs.PowerUps.{power_up_file}
use Rattle.registers.specs.Bursts.{write_each}
use Rattle.origins.specs.declared.NumberedWrite.{NumberedWrite}
use Rattle.origins.specs.NumberedWrites.{unnumbered_writes}

-- "every shared register and every register of each port"
pub data Register : Type 0 where
  shared_register : (offset : ℕ) → Register
  port_register : (port offset : ℕ) → Register

abbrev pub offset_of : Register → ℕ
offset_of (shared_register offset) = offset
offset_of (port_register port offset) = offset

-- there is such a register
abbrev pub IsRegister : Register → Type 0
IsRegister (shared_register offset) = offset < 256
IsRegister (port_register port offset) = (port < 4) × (offset < 256)

-- what it holds
abbrev pub value_at : RegisterFile → Register → ℕ
value_at file (shared_register offset) = shared_at file offset
value_at file (port_register port offset) = page_at file.pages port offset

-- some bit of the register is writable
abbrev pub is_writable : ℕ → Bool
is_writable offset = not (mask_of offset == 0)

-- A write to an offset reaches a register: "the offset is its own, some bit of it is writable, and for a per-port
-- offset the port was ticked then".
unfoldable pub reaches : RegisterFile → ℕ → Register → Bool
reaches file at (shared_register offset) = offset == at && is_writable at && not (per_port at)
reaches file at (port_register port offset) = offset == at && is_writable at && (per_port at && bit port (selection file))

-- the registers after a numbered write
abbrev pub after_numbered : RegisterFile → NumberedWrite → RegisterFile
after_numbered file write = write_register Selection file write.offset write.value

-- and after a list of them
abbrev pub after_each : RegisterFile → List NumberedWrite → RegisterFile
after_each file writes = write_each Selection file (unnumbered_writes writes)

-- the later write, where there is one, or else the earlier one
abbrev pub later_or : Option NumberedWrite → Option NumberedWrite → Option NumberedWrite
later_or (some later) earlier = some later
later_or none earlier = earlier

-- "the last write that reached it [...], or none: the start value stands"
unfoldable pub origin_of : RegisterFile → List NumberedWrite → Register → Option NumberedWrite
origin_of file [] register = none
origin_of file (write ∷ writes) register =
    later_or (origin_of (after_numbered file write) writes register)
    (cond (reaches file write.offset register) (some write) none)

-- That it is the last one, in full. None of the writes reaches the register, each from the registers that it meets:
abbrev pub NoneReaches : RegisterFile → List NumberedWrite → Register → Type 0
NoneReaches file [] register = Unit
NoneReaches file (write ∷ writes) register =
    (reaches file write.offset register ≡ false) × NoneReaches (after_numbered file write) writes register

-- a write of the list reaches it, and none after that
pub record LastReaching (file : RegisterFile) (writes : List NumberedWrite) (register : Register)
    (write : NumberedWrite) : Type 0 where
  pub earlier : List NumberedWrite
  pub later : List NumberedWrite
  pub split : writes ≡ earlier ++ (write ∷ later)
  pub reaching : reaches (after_each file earlier) write.offset register ≡ true
  pub last : NoneReaches (after_numbered (after_each file earlier) write) later register

pub record OriginIsLast (file : RegisterFile) (writes : List NumberedWrite) (register : Register) : Type 0 where
  pub only_last : (write : NumberedWrite) → origin_of file writes register ≡ some write
      → LastReaching file writes register write
  pub every_last : (write : NumberedWrite) → LastReaching file writes register write
      → origin_of file writes register ≡ some write
  pub only_none : origin_of file writes register ≡ none → NoneReaches file writes register
  pub every_none : NoneReaches file writes register → origin_of file writes register ≡ none

abbrev pub EveryOriginIsLast : Type 0
EveryOriginIsLast =
    (file : RegisterFile) (writes : List NumberedWrite) (register : Register) → OriginIsLast file writes register

-- "its start value with the writable bits of that one write"
abbrev pub value_from : Option NumberedWrite → Register → ℕ → ℕ
value_from none register start = start
value_from (some write) register start = masked (mask_of (offset_of register)) start write.value

-- What holds of every value of the type RegisterFile: in a definition an array of bytes is a list of numbers, and this
-- says how long, and that they are bytes. `origins::start` proves it of any register file.
pub record FileOfBytes (file : RegisterFile) : Type 0 where
  pub shared_count : length file.shared ≡ 256
  pub page_count : length file.pages ≡ 1024
  pub shared_bytes : AreBytes file.shared
  pub page_bytes : AreBytes file.pages

-- It holds of the registers at reset,
abbrev pub ResetOfBytes : Type 0
ResetOfBytes = FileOfBytes reset_file

-- and as they start,
abbrev pub PowerUpOfBytes : Type 0
PowerUpOfBytes = (start : PowerUp) → FileOfBytes (power_up_file start)

-- and of every register file that writes lead to.
abbrev pub BytesKept : Type 0
BytesKept =
    (file : RegisterFile) → FileOfBytes file → (writes : List NumberedWrite) → FileOfBytes (after_each file writes)

-- A write gives each register that it reaches the writable bits of its value, and leaves every other as it was.
abbrev pub WrittenWhereReached : Type 0
WrittenWhereReached =
    (file : RegisterFile) → FileOfBytes file → (at value : ℕ) (register : Register) → IsRegister register
    → value_at (write_register Selection file at value) register
    ≡ cond (reaches file at register) (masked (mask_of at) (value_at file register) value) (value_at file register)

-- The law that makes an origin an explanation: "at the end the register holds its start value with the writable bits of
-- that one write, whatever the others were", from every start and after any writes.
abbrev pub OriginExplains : Type 0
OriginExplains =
    (start : RegisterFile) → FileOfBytes start → (writes : List NumberedWrite) (register : Register)
    → IsRegister register
    → value_at (after_each start writes) register
    ≡ value_from (origin_of start writes register) register (value_at start register)
