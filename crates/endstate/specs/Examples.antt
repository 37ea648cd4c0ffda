-- The weighbridge in small, two cameras at ports 0 and 1 of the hub 0x3D: short scripts on a hub after reset, and what
-- is found in the state at their end.
-- Assumes nothing.
use Rattle.std.specs.Prelude.{◌≡◌, Bool, true, false, List, [], ◌∷◌, ◌++◌, ℕ, ◌+◌, Some}
use Rattle.formats.specs.declared.Format.TheVariants.{Raw10}
use Rattle.registers.specs.RegisterFiles.{reset_file}
use Rattle.hub.specs.declared.Hub.{Hub}
use Rattle.hub.specs.Hubs.{hub_with}
use Rattle.origins.specs.declared.RegistersWithOrigins.{RegistersWithOrigins}
use Rattle.origins.specs.declared.NumberedWrite.{NumberedWrite}
use Rattle.origins.specs.KeptOrigins.{start_with, write_numbered_each}
use Rattle.endstate.specs.declared.findings.Grade.TheVariants.{Meant, Wrong}
use Rattle.endstate.specs.Findings.{ClashFinding, nothing_found}
use Rattle.endstate.specs.Channels.{same_channel}
use Rattle.endstate.specs.Addresses.{address_lines, same_address}
use Rattle.endstate.specs.Unset.{not_set_up}

abbrev write : ℕ → ℕ → ℕ → NumberedWrite
write number offset value = record { number = number; offset = offset; value = value }

-- A block of five lines: selection, pass-through, the camera's own address 0x30, its alias and its RAW10 identifier.
abbrev block : ℕ → ℕ → ℕ → ℕ → List NumberedWrite
block line selection alias identifier =
    write line 0x4C selection ∷
    write (line + 1) 0x58 0x58 ∷
    write (line + 2) 0x5D 0x60 ∷
    write (line + 3) 0x65 alias ∷
    write (line + 4) 0x70 identifier ∷
    []

-- FWD_CTL1: ports 0 and 1 are forwarded, both to output 0, or port 1 to output 1
abbrev one_output : List NumberedWrite
one_output = write 12 0x20 0xC0 ∷ []

abbrev two_outputs : List NumberedWrite
two_outputs = write 12 0x20 0xC2 ∷ []

-- both cameras get alias 0x31 and channel 0, each in its block, or in one for both
abbrev two_blocks : List NumberedWrite
two_blocks = block 1 0x01 0x62 0x2B ++ block 6 0x12 0x62 0x2B

abbrev broadcast : List NumberedWrite
broadcast = block 1 0x03 0x62 0x2B

-- port 0 alone is set up, with channel 1, which port 1 has after reset
abbrev one_port : List NumberedWrite
one_port = block 1 0x01 0x62 0x6B

-- the state at the end of a script
abbrev state_after : List NumberedWrite → RegistersWithOrigins
state_after writes = write_numbered_each (start_with reset_file) writes

abbrev hub_after : List NumberedWrite → Hub
hub_after writes = hub_with (state_after writes).registers 0x3D

-- what is found of an output and channel, for RAW10, of an address, and of a port
abbrev on_channel : ℕ → ℕ → List NumberedWrite → ClashFinding
on_channel output channel writes = same_channel (hub_after writes) (state_after writes) Raw10 output channel

abbrev on_address : ℕ → List NumberedWrite → ClashFinding
on_address address writes = same_address (hub_after writes) (state_after writes) address

abbrev unset_port : ℕ → List NumberedWrite → Bool
unset_port port writes = not_set_up (hub_after writes) (state_after writes) port

-- Ports 0 and 1, mask 3. By two lines it is wrong, by one it is meant; where one port has its start value it is wrong.
-- FWD_CTL2 may ask for line interleaving, on that output. Two outputs share nothing.
pub record ChannelExamples : Type 0 where
  pub two_lines : on_channel 0 0 (two_blocks ++ one_output)
      ≡ record { grade = Some Wrong; ports = 3; lines = 5 ∷ 10 ∷ [] }
  pub one_line : on_channel 0 0 (broadcast ++ one_output) ≡ record { grade = Some Meant; ports = 3; lines = 5 ∷ [] }
  pub start_value : on_channel 0 1 (one_port ++ one_output) ≡ record { grade = Some Wrong; ports = 3; lines = 5 ∷ [] }
  pub interleaved : on_channel 0 0 (two_blocks ++ (write 11 0x21 0x08 ∷ one_output))
      ≡ record { grade = Some Meant; ports = 3; lines = 5 ∷ 10 ∷ [] }
  pub other_output : on_channel 0 0 (two_blocks ++ (write 11 0x21 0x20 ∷ one_output))
      ≡ record { grade = Some Wrong; ports = 3; lines = 5 ∷ 10 ∷ [] }
  pub output0 : on_channel 0 0 (two_blocks ++ two_outputs) ≡ nothing_found
  pub output1 : on_channel 1 0 (two_blocks ++ two_outputs) ≡ nothing_found

-- the lines of the alias; of a broadcast, each line of the devices stands once
pub record AddressExamples : Type 0 where
  pub two_lines : on_address 0x31 two_blocks ≡ record { grade = Some Wrong; ports = 3; lines = 4 ∷ 9 ∷ [] }
  pub one_line : on_address 0x31 broadcast ≡ record { grade = Some Meant; ports = 3; lines = 4 ∷ [] }
  pub one_port_alone : on_address 0x31 one_port ≡ nothing_found
  pub device_lines : address_lines (hub_after broadcast) (state_after broadcast) 0x31 ≡ 2 ∷ 3 ∷ 4 ∷ []

-- port 1 is forwarded and nothing set it up; port 2 is not forwarded; and where nothing was set up at all there is no
-- finding
pub record UnsetExamples : Type 0 where
  pub forgotten : unset_port 1 (one_port ++ one_output) ≡ true
  pub set_up : unset_port 0 (one_port ++ one_output) ≡ false
  pub not_forwarded : unset_port 2 (one_port ++ one_output) ≡ false
  pub nobody : unset_port 1 one_output ≡ false
