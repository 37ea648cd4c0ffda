-- A burst of register writes, as the list of its writes of one value (document 01, "The register file").
-- Assumes nothing.
use Rattle.std.specs.Prelude.{◌≡◌, true, List, [], ◌∷◌, ℕ, ◌+◌, ◌%◌}
use Rattle.registers.specs.declared.RegisterFile.{RegisterFile}
use Rattle.registers.specs.declared.PageAccess.{PageAccess}
use Rattle.registers.specs.RegisterMap.{per_port}
use Rattle.registers.specs.RegisterFiles.{write_register}

-- a register write of one value
pub record RegisterWrite : Type 0 where
  pub offset : ℕ
  pub value : ℕ

-- "after 0xFF comes 0x00"
abbrev pub next_offset : ℕ → ℕ
next_offset offset = (offset + 1) % 256

-- "A burst writes successive offsets"
unfoldable pub burst_writes : ℕ → List ℕ → List RegisterWrite
burst_writes offset [] = []
burst_writes offset (value ∷ values) = record { offset = offset; value = value } ∷ burst_writes (next_offset offset) values

-- "each byte under the selection then in force": each write gets the file that the last one returned. "An empty burst
-- changes nothing."
unfoldable pub write_each : PageAccess → RegisterFile → List RegisterWrite → RegisterFile
write_each access file [] = file
write_each access file (write ∷ writes) =
    write_each access (write_register access file write.offset write.value) writes

-- a burst through an access
unfoldable pub write_burst : PageAccess → RegisterFile → ℕ → List ℕ → RegisterFile
write_burst access file offset values = write_each access file (burst_writes offset values)

-- every write goes "to an offset marked P"
abbrev pub AllPerPort : List RegisterWrite → Type 0
AllPerPort [] = Unit
AllPerPort (write ∷ writes) = (per_port write.offset ≡ true) × AllPerPort writes
