-- Which ports are forwarded, and whose frames leave on a CSI output and virtual channel.
-- Assumes nothing.
use Rattle.std.specs.Prelude.{◌≡◌, Bool, true, false, ◌&&◌, ℕ, ◌<◌, eqb}
use Rattle.laws.specs.Elements.{AreBytes}
use Rattle.laws.specs.Reply.{Reply, refused_with, given}
use Rattle.formats.specs.declared.Format.{Format}
use Rattle.formats.specs.declared.Format.TheVariants.{Raw10, Raw12}
use Rattle.hub.specs.declared.Hub.{Hub}
use Rattle.hub.specs.Routes.{PortRoute, off, output, route_of}
use Rattle.ports.specs.PortMasks.{port_mask, several_ports}

-- a port with this route is forwarded
abbrev pub forwards : Reply PortRoute → Bool
forwards (refused_with number detail) = false
forwards (given off) = false
forwards (given (output csi raw10 raw12)) = true

unfoldable pub is_forwarded : Hub → ℕ → Bool
is_forwarded hub port = forwards (route_of hub.registers port)

-- No port above 3 is forwarded: the four ports that are looked at are all there are.
abbrev pub OnlyThesePorts : Type 0
OnlyThesePorts = (hub : Hub) (port : ℕ) → 3 < port → is_forwarded hub port ≡ false

-- the channel of a format
abbrev pub channel_of : Format → ℕ → ℕ → ℕ
channel_of Raw10 raw10 raw12 = raw10
channel_of Raw12 raw10 raw12 = raw12

-- the output and channel are those asked for
abbrev pub is_channel : ℕ → ℕ → ℕ → ℕ → Bool
is_channel csi vc out channel = eqb csi out && eqb vc channel

-- frames of a port with this route, in this format, leave on this output and channel
abbrev pub leaves_by : Format → ℕ → ℕ → Reply PortRoute → Bool
leaves_by format out channel (refused_with number detail) = false
leaves_by format out channel (given off) = false
leaves_by format out channel (given (output csi raw10 raw12)) = is_channel csi (channel_of format raw10 raw12) out channel

unfoldable pub leaves_on : Hub → Format → ℕ → ℕ → ℕ → Bool
leaves_on hub format out channel port = leaves_by format out channel (route_of hub.registers port)

-- a port's route is to this output, with this channel for the format
pub record RouteTo (hub : Hub) (format : Format) (out channel port : ℕ) : Type 0 where
  pub raw10 : ℕ
  pub raw12 : ℕ
  pub route : route_of hub.registers port ≡ given (output out raw10 raw12)
  pub vc : channel_of format raw10 raw12 ≡ channel

-- a port's frames leave on an output and channel exactly where its route is to them
pub record LeavesOnMeans (hub : Hub) (format : Format) (out channel port : ℕ) : Type 0 where
  pub only : leaves_on hub format out channel port ≡ true → RouteTo hub format out channel port
  pub every : RouteTo hub format out channel port → leaves_on hub format out channel port ≡ true

abbrev pub LeavesOnExact : Type 0
LeavesOnExact = (hub : Hub) (format : Format) (out channel port : ℕ) → LeavesOnMeans hub format out channel port

-- `same-channel`: "two or more forwarded ports share an output and a RAW10 channel, or an output and a RAW12 channel"
abbrev pub channel_shared : Hub → Format → ℕ → ℕ → Bool
channel_shared hub format out channel = several_ports (port_mask (leaves_on hub format out channel))

-- two ports whose routes are to this output and channel
pub record TwoRoutes (hub : Hub) (format : Format) (out channel : ℕ) : Type 0 where
  pub low : ℕ
  pub high : ℕ
  pub rising : low < high
  pub within : high < 4
  pub first : RouteTo hub format out channel low
  pub second : RouteTo hub format out channel high

-- ports share an output and channel exactly where there are two such
pub record ChannelSharedMeans (hub : Hub) (format : Format) (out channel : ℕ) : Type 0 where
  pub only : channel_shared hub format out channel ≡ true → TwoRoutes hub format out channel
  pub every : TwoRoutes hub format out channel → channel_shared hub format out channel ≡ true

abbrev pub ChannelSharedExact : Type 0
ChannelSharedExact = (hub : Hub) (format : Format) (out channel : ℕ) → ChannelSharedMeans hub format out channel

-- No two ports share an output above 1, or a channel above 3: so the eight places of a format that are looked at, two
-- outputs with four channels each, are all there are. (`AreBytes` holds of every array of bytes.)
abbrev pub OnlyTheseChannels : Type 0
OnlyTheseChannels =
    (hub : Hub) (format : Format) (out channel : ℕ) → channel_shared hub format out channel ≡ true
    → (out < 2) × (AreBytes hub.registers.pages → channel < 4)
