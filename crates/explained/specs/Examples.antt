-- A short script: the line that is named for a register, and what the register holds at the end.
-- Assumes nothing.
use Rattle.std.specs.Prelude.{◌≡◌, List, ◌++◌, ℕ}
use Rattle.laws.specs.Reply.{Reply, given, on_reply}
use Rattle.laws.specs.Texts.{ascii}
use Rattle.registers.specs.declared.power_up.PowerUp.TheVariants.{Boot}
use Rattle.registers.specs.RegisterMap.{MAX_FRM_LO, SER_ALIAS_ID}
use Rattle.origins.specs.declared.NumberedWrite.{NumberedWrite}
use Rattle.origins.specs.Origins.{Register, shared_register, port_register, value_at}
use Rattle.origins.specs.KeptOrigins.{kept_number}
use Rattle.scriptwrites.specs.NumberedCalls.{numbered_calls}
use Rattle.explained.specs.Explained.{kept_after}

-- line 2 selects port 1, line 5 writes the register of line 4 again, and of CSI_PLL_CTL two bits are writable
abbrev script : List ℕ
script =
    ascii "# lane 1\nWriteI2C(0x4C, 0x12) # port 1\n\nWriteI2C(0x5C, 0x62)\n"
    ++ ascii "WriteI2C(0x5C, 0x64)\nWriteI2C(0x1F, 0xFF)\n"

-- the line of a register, 0 for none, and what the register holds
abbrev line_of : Register → Reply ℕ
line_of register =
    on_reply (λ (writes : List NumberedWrite). kept_number (kept_after Boot writes) register) (numbered_calls script)

abbrev value_of : Register → Reply ℕ
value_of register =
    on_reply (λ (writes : List NumberedWrite). value_at (kept_after Boot writes).registers register)
    (numbered_calls script)

-- the last line, not the first; the port that was ticked, and no other; the writable bits alone
pub record LinesNamed : Type 0 where
  pub last_line : line_of (port_register 1 SER_ALIAS_ID) ≡ given 5
  pub last_value : value_of (port_register 1 SER_ALIAS_ID) ≡ given 0x64
  pub no_line : line_of (port_register 0 SER_ALIAS_ID) ≡ given 0
  pub start_value : value_of (port_register 0 SER_ALIAS_ID) ≡ given 0x00
  pub cleared : value_of (shared_register MAX_FRM_LO) ≡ given 0x00
  pub shared_line : line_of (shared_register 0x1F) ≡ given 6
  pub writable_bits : value_of (shared_register 0x1F) ≡ given 0x03
