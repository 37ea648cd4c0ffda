-- The lines of an address: "who hears a write, [...] with the lines that set pass-through, alias and remote address of
-- each device"; and `same-address`: "a write to an address reaches two or more ports. Lines: the origins of the alias
-- registers that match. Meant, where all have one and the same line as origin (a broadcast); else wrong". The hub has
-- the registers of the end, and beside it are their origins.
-- Assumes nothing.
use Rattle.std.specs.Prelude.{◌≡◌, true, false, ℕ, ◌+◌}
use mathlib.Core.List.{List, [], ◌∷◌, ◌++◌, Memᴰ}
use Rattle.laws.specs.Reply.{Reply, refused_with, given}
use Rattle.registers.specs.RegisterMap.{BCC_CONFIG, SER_ID, SER_ALIAS_ID, TARGET_ID_0, TARGET_ALIAS_0}
use Rattle.hub.specs.declared.Hub.{Hub}
use Rattle.translation.specs.declared.Remote.{Remote}
use Rattle.translation.specs.declared.Remote.TheVariants.{Serializer, Target}
use Rattle.translation.specs.declared.PortDevice.{PortDevice}
use Rattle.translation.specs.Translation.{Addressed, the_hub, no_device, found, who_hears_write}
use Rattle.ports.specs.PortMasks.{port_mask}
use Rattle.origins.specs.declared.RegistersWithOrigins.{RegistersWithOrigins}
use Rattle.origins.specs.Origins.{port_register}
use Rattle.origins.specs.KeptOrigins.{kept_number}
use Rattle.clashes.specs.Addresses.{address_reaches, TwoHearers}
use Rattle.endstate.specs.RisingLines.{rising_lines}
use Rattle.endstate.specs.LineRows.{RowHas}
use Rattle.endstate.specs.Findings.{ClashFinding, shared_by, is_found}

-- a register of a device: the serializer's, or that of the target with its number, in a row of eight
abbrev pub register_for : Remote → ℕ → ℕ → ℕ
register_for (Serializer address) serializer targets = serializer
register_for (Target number address) serializer targets = targets + number

unfoldable pub register_origin : RegistersWithOrigins → PortDevice → ℕ → ℕ → ℕ
register_origin state device serializer targets =
    kept_number state (port_register device.port (register_for device.remote serializer targets))

-- the origin of its alias, and of its remote address
abbrev pub alias_origin : RegistersWithOrigins → PortDevice → ℕ
alias_origin state device = register_origin state device SER_ALIAS_ID TARGET_ALIAS_0

abbrev pub remote_origin : RegistersWithOrigins → PortDevice → ℕ
remote_origin state device = register_origin state device SER_ID TARGET_ID_0

-- "pass-through, alias and remote address of each device"
unfoldable pub device_origins : RegistersWithOrigins → PortDevice → List ℕ
device_origins state device =
    kept_number state (port_register device.port BCC_CONFIG) ∷
    alias_origin state device ∷
    remote_origin state device ∷
    []

unfoldable pub devices_origins : RegistersWithOrigins → List PortDevice → List ℕ
devices_origins state [] = []
devices_origins state (device ∷ devices) = device_origins state device ++ devices_origins state devices

-- "the alias registers that match": those of the devices that hear the write
unfoldable pub alias_origins : RegistersWithOrigins → List PortDevice → List ℕ
alias_origins state [] = []
alias_origins state (device ∷ devices) = alias_origin state device ∷ alias_origins state devices

-- the devices that hear a write that is answered so: the hub's own address, and one that nobody hears, has none
abbrev pub hearers : Reply (Addressed (List PortDevice)) → List PortDevice
hearers (refused_with number detail) = []
hearers (given the_hub) = []
hearers (given no_device) = []
hearers (given (found devices)) = devices

unfoldable pub address_lines : Hub → RegistersWithOrigins → ℕ → List ℕ
address_lines hub state address = rising_lines (devices_origins state (hearers (who_hears_write hub address)))

-- all of them have their place in a row
abbrev pub AddressLinesHeld : Type 0
AddressLinesHeld = (hub : Hub) (state : RegistersWithOrigins) (address : ℕ) → RowHas (address_lines hub state address)

unfoldable pub same_address : Hub → RegistersWithOrigins → ℕ → ClashFinding
same_address hub state address =
    shared_by (port_mask (address_reaches hub address)) (alias_origins state (hearers (who_hears_write hub address))) false

-- a device of some, and the origin of its alias
pub record AliasOrigin (state : RegistersWithOrigins) (devices : List PortDevice) (number : ℕ) : Type 0 where
  pub device : PortDevice
  pub member : Memᴰ device devices
  pub origin : alias_origin state device ≡ number

-- Every finding is there, and nothing else is; its origins are exactly those of the devices that hear the write, and
-- all its lines have their place in a row. What it says of them is `SharedMeans`.
pub record SameAddressMeans (hub : Hub) (state : RegistersWithOrigins) (address : ℕ) : Type 0 where
  pub only : is_found (same_address hub state address) ≡ true → TwoHearers hub address
  pub every : TwoHearers hub address → is_found (same_address hub state address) ≡ true
  pub origin_only : (number : ℕ) → Memᴰ number (alias_origins state (hearers (who_hears_write hub address)))
      → AliasOrigin state (hearers (who_hears_write hub address)) number
  pub origin_every : (number : ℕ) → AliasOrigin state (hearers (who_hears_write hub address)) number
      → Memᴰ number (alias_origins state (hearers (who_hears_write hub address)))
  pub held : RowHas (same_address hub state address).lines

abbrev pub SameAddressExact : Type 0
SameAddressExact = (hub : Hub) (state : RegistersWithOrigins) (address : ℕ) → SameAddressMeans hub state address
