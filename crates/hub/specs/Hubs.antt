-- The hub: its own address, its register file, and what each port keeps of frames.
-- Assumes nothing.
use Rattle.std.specs.Prelude.{◌≡◌, Bool, true, false, cond, ◌&&◌, List, ℕ, leb, length, get_or, set, replicate, Result}
use Rattle.std.specs.Prelude.{Ok, Err}
use Rattle.std.proofs.Math.Option.{Option, none, some}
use Rattle.laws.specs.Reply.{Reply, refused, given, reply_by}
use Rattle.formats.specs.declared.Format.{Format}
use Rattle.registers.specs.declared.RegisterFile.{RegisterFile}
use Rattle.registers.specs.declared.PageAccess.TheVariants.{Selection}
use Rattle.registers.specs.declared.power_up.PowerUp.{PowerUp}
use Rattle.registers.specs.RegisterFiles.{read_register}
use Rattle.registers.specs.PowerUps.{power_up_file}
use Rattle.registers.specs.Bursts.{write_burst}
use Rattle.hub.specs.declared.LastFrame.{LastFrame}
use Rattle.hub.specs.declared.LastFrame.TheVariants.{NoFrame, Closed, Open}
use Rattle.hub.specs.declared.PortFrames.{PortFrames}
use Rattle.hub.specs.declared.Hub.{Hub}
use Rattle.hub.specs.declared.NotCreated.{NotCreated}
use Rattle.hub.specs.Refusals.{address_out_of_range_number}

-- What holds of every value of the type Hub: in a definition an array is a list, and this says how long.
-- `hub::array_lengths` proves it of any hub.
pub record ArrayLengths (hub : Hub) : Type 0 where
  pub shared : length hub.registers.shared ≡ 256
  pub pages : length hub.registers.pages ≡ 1024
  pub frames : length hub.frames ≡ 4

-- "Each port keeps: open or not, format of its last frame (none, 10 or 12 bits), frame number." The three values of
-- each case. A port that never had a frame is closed and has number 0, so no other combination arises.
abbrev pub is_open : LastFrame → Bool
is_open NoFrame = false
is_open (Closed format number) = false
is_open (Open format number) = true

abbrev pub last_format : LastFrame → Option Format
last_format NoFrame = none
last_format (Closed format number) = some format
last_format (Open format number) = some format

abbrev pub frame_number : LastFrame → ℕ
frame_number NoFrame = 0
frame_number (Closed format number) = number
frame_number (Open format number) = number

-- "At first closed, none, 0."
abbrev pub first_frames : PortFrames
first_frames = record { last = NoFrame }

-- a hub with its own address, and the registers that it starts with
unfoldable pub hub_with : RegisterFile → ℕ → Hub
hub_with start address = record { address = address; registers = start; frames = replicate 4 first_frames }

-- as it starts (L5)
abbrev pub hub_at : PowerUp → ℕ → Hub
hub_at start address = hub_with (power_up_file start) address

-- Document 01: the hub's own address "lies in 0x08 to 0x77"
unfoldable pub is_hub_address : ℕ → Bool
is_hub_address address = leb 0x08 address && leb address 0x77

-- refusal 2: "for the hub's own, outside 0x08 to 0x77"
unfoldable pub creation_with : RegisterFile → ℕ → Reply Hub
creation_with start address = cond (is_hub_address address) (given (hub_with start address)) (refused 2)

abbrev pub creation_of : PowerUp → ℕ → Reply Hub
creation_of start address = creation_with (power_up_file start) address

-- the answer to creating a hub, with the paper's number of the refusal
abbrev pub creation_reply : Result Hub NotCreated → Reply Hub
creation_reply answer = reply_by (λ not_created. address_out_of_range_number not_created.refusal) answer

-- the hub that was asked for, whether or not it was created
abbrev pub hub_asked : Result Hub NotCreated → Hub
hub_asked (Ok hub) = hub
hub_asked (Err not_created) = not_created.hub

-- the hub with other registers
abbrev pub with_registers : Hub → RegisterFile → Hub
with_registers hub file = record { address = hub.address; registers = file; frames = hub.frames }

-- a burst changes the registers alone
unfoldable pub hub_burst : Hub → ℕ → List ℕ → Hub
hub_burst hub offset values = with_registers hub (write_burst Selection hub.registers offset values)

unfoldable pub hub_read : Hub → ℕ → ℕ
hub_read hub offset = read_register Selection hub.registers offset

-- what a port keeps of frames, and the hub with all of it replaced (past the fourth port there is nothing to replace)
abbrev pub port_frames : Hub → ℕ → PortFrames
port_frames hub port = get_or hub.frames port first_frames

abbrev pub with_port_frames : Hub → ℕ → PortFrames → Hub
with_port_frames hub port frames =
    record { address = hub.address; registers = hub.registers; frames = set hub.frames port frames }
