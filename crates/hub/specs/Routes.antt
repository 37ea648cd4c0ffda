-- The route of a port (document 01, "Frames and packets").
-- Assumes nothing.
use Rattle.std.specs.Prelude.{cond, ℕ, ◌+◌, ◌/◌, ltb, Option, Some, None, Result}
use Rattle.laws.specs.Bits.{digit, bit}
use Rattle.laws.specs.Reply.{Reply, refused, given, on_reply, reply_by}
use Rattle.formats.specs.declared.Format.{Format}
use Rattle.formats.specs.declared.Format.TheVariants.{Raw10, Raw12}
use Rattle.registers.specs.declared.RegisterFile.{RegisterFile}
use Rattle.registers.specs.RegisterMap.{FWD_CTL1, RAW10_ID, RAW12_ID}
use Rattle.registers.specs.RegisterFiles.{shared_at, page_at}
use Rattle.hub.specs.declared.forwarding.NoSuchPort.{NoSuchPort}
use Rattle.hub.specs.declared.forwarding.Output.{Output}
use Rattle.hub.specs.Refusals.{no_such_port_number}

-- "A port's route is off, or this output with both formats' channels."
pub data PortRoute : Type 0 where
  off : PortRoute
  output : (csi raw10 raw12 : ℕ) → PortRoute

-- "The data identifier is taken at each event from 0x70 or 0x71 by the frame's format"
abbrev pub data_identifier : RegisterFile → ℕ → Format → ℕ
data_identifier file port Raw10 = page_at file.pages port RAW10_ID
data_identifier file port Raw12 = page_at file.pages port RAW12_ID

-- "its top two bits (the channel)" of a data identifier
abbrev pub virtual_channel : ℕ → ℕ
virtual_channel identifier = identifier / 64

-- "Forwarding of port p is off if bit 4 + p of 0x20 is set [...] Otherwise it leaves on CSI output 0 or 1, as bit p
-- says." (FWD_PORTp_DIS, RXp_MAP)
unfoldable pub port_route : RegisterFile → ℕ → PortRoute
port_route file port =
    let forwarding = shared_at file FWD_CTL1 in
    cond (bit (4 + port) forwarding) off
    (output (digit port forwarding)
    (virtual_channel (data_identifier file port Raw10)) (virtual_channel (data_identifier file port Raw12)))

-- refusal 1: "port above 3"
unfoldable pub route_of : RegisterFile → ℕ → Reply PortRoute
route_of file port = cond (ltb 3 port) (refused 1) (given (port_route file port))

-- a route as the function answers it
abbrev pub as_route : Option Output → PortRoute
as_route None = off
as_route (Some answer) = output answer.csi answer.raw10_vc answer.raw12_vc

-- the answer, with the paper's number of the refusal
abbrev pub route_reply : Result (Option Output) NoSuchPort → Reply PortRoute
route_reply answer = on_reply as_route (reply_by no_such_port_number answer)
