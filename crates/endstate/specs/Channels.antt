-- The lines of a port's route; and `same-channel`: "two or more forwarded ports share an output and a RAW10 channel, or
-- an output and a RAW12 channel. Lines: the origins of their 0x70 or 0x71. Meant, where all of these have one and the
-- same line as origin, or FWD_CTL2 asks for line interleaving or line concatenation on that output". The hub has the
-- registers of the end, and beside it are their origins.
-- Assumes nothing.
use Rattle.std.specs.Prelude.{◌≡◌, Bool, true, cond, ℕ, zero, suc, ◌/◌, ◌%◌, ◌<◌, leb}
use mathlib.Core.List.{List, [], ◌∷◌, Memᴰ}
use Rattle.formats.specs.declared.Format.{Format}
use Rattle.formats.specs.declared.Format.TheVariants.{Raw10, Raw12}
use Rattle.registers.specs.declared.RegisterFile.{RegisterFile}
use Rattle.registers.specs.RegisterMap.{FWD_CTL1, FWD_CTL2, RAW10_ID, RAW12_ID}
use Rattle.registers.specs.RegisterFiles.{shared_at}
use Rattle.hub.specs.declared.Hub.{Hub}
use Rattle.ports.specs.PortMasks.{port_mask}
use Rattle.origins.specs.declared.RegistersWithOrigins.{RegistersWithOrigins}
use Rattle.origins.specs.Origins.{shared_register, port_register}
use Rattle.origins.specs.KeptOrigins.{kept_number}
use Rattle.clashes.specs.Channels.{leaves_on, RouteTo, TwoRoutes}
use Rattle.endstate.specs.declared.channels.PortLines.{PortLines}
use Rattle.endstate.specs.LineRows.{RowHas}
use Rattle.endstate.specs.Findings.{ClashFinding, shared_by, is_found}

-- "the lines that set 0x20, 0x70 and 0x71"
unfoldable pub port_lines : RegistersWithOrigins → ℕ → PortLines
port_lines state port =
    record {
      forwarding = kept_number state (shared_register FWD_CTL1);
      raw10 = kept_number state (port_register port RAW10_ID);
      raw12 = kept_number state (port_register port RAW12_ID);
    }

-- 0x70 or 0x71
abbrev pub identifier_register : Format → ℕ
identifier_register Raw10 = RAW10_ID
identifier_register Raw12 = RAW12_ID

abbrev pub if_in : Bool → ℕ → List ℕ → List ℕ
if_in is-in number numbers = cond is-in (number ∷ numbers) numbers

-- the numbers of the ports of which something holds
unfoldable pub port_numbers : (ℕ → Bool) → (ℕ → ℕ) → List ℕ
port_numbers holds number =
    if_in (holds 0) (number 0) (if_in (holds 1) (number 1) (if_in (holds 2) (number 2) (if_in (holds 3) (number 3) [])))

-- "CSI0_SYNC_FWD in bits 3:2, CSI1_SYNC_FWD in 5:4"; there is no other output
abbrev pub sync_forwarding : RegisterFile → ℕ → ℕ
sync_forwarding file zero = shared_at file FWD_CTL2 / 4 % 4
sync_forwarding file (suc zero) = shared_at file FWD_CTL2 / 16 % 4
sync_forwarding file (suc (suc output)) = 0

-- "FWD_CTL2 asks for line interleaving or line concatenation on that output ([...] 10 or 11)"
abbrev pub asks_for_lines : RegisterFile → ℕ → Bool
asks_for_lines file output = leb 2 (sync_forwarding file output)

-- the origins of their 0x70 or 0x71
abbrev pub channel_origins : Hub → RegistersWithOrigins → Format → ℕ → ℕ → List ℕ
channel_origins hub state format output channel =
    port_numbers (leaves_on hub format output channel)
    (λ port. kept_number state (port_register port (identifier_register format)))

unfoldable pub same_channel : Hub → RegistersWithOrigins → Format → ℕ → ℕ → ClashFinding
same_channel hub state format output channel =
    shared_by (port_mask (leaves_on hub format output channel)) (channel_origins hub state format output channel)
    (asks_for_lines hub.registers output)

-- a port with such a route, and the origin of its 0x70 or 0x71
pub record RouteOrigin (hub : Hub) (state : RegistersWithOrigins) (format : Format) (out channel number : ℕ)
    : Type 0 where
  pub port : ℕ
  pub within : port < 4
  pub route : RouteTo hub format out channel port
  pub origin : kept_number state (port_register port (identifier_register format)) ≡ number

-- Every finding is there, and nothing else is; its origins are exactly those of such ports, and all its lines have
-- their place in a row. What it says of them is `SharedMeans`.
pub record SameChannelMeans (hub : Hub) (state : RegistersWithOrigins) (format : Format) (out channel : ℕ)
    : Type 0 where
  pub only : is_found (same_channel hub state format out channel) ≡ true → TwoRoutes hub format out channel
  pub every : TwoRoutes hub format out channel → is_found (same_channel hub state format out channel) ≡ true
  pub origin_only : (number : ℕ) → Memᴰ number (channel_origins hub state format out channel)
      → RouteOrigin hub state format out channel number
  pub origin_every : (number : ℕ) → RouteOrigin hub state format out channel number
      → Memᴰ number (channel_origins hub state format out channel)
  pub held : RowHas (same_channel hub state format out channel).lines

abbrev pub SameChannelExact : Type 0
SameChannelExact =
    (hub : Hub) (state : RegistersWithOrigins) (format : Format) (out channel : ℕ)
    → SameChannelMeans hub state format out channel
