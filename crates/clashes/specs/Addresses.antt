-- Which ports a write to an address reaches, and which no address reaches.
-- Assumes nothing.
use Rattle.std.specs.Prelude.{◌≡◌, Bool, true, false, cond, not, ◌&&◌, List, [], ◌∷◌, ℕ, zero, suc, ◌<◌, eqb}
use Rattle.laws.specs.Reply.{Reply, refused_with, given}
use Rattle.hub.specs.declared.Hub.{Hub}
use Rattle.translation.specs.declared.PortDevice.{PortDevice}
use Rattle.translation.specs.Translation.{Addressed, the_hub, no_device, found, who_hears_write}
use Rattle.translation.specs.Laws.{HearsWrite}
use Rattle.ports.specs.PortMasks.{port_mask, several_ports}
use Rattle.clashes.specs.Channels.{is_forwarded}

-- one of the devices is behind this port
unfoldable pub any_behind : ℕ → List PortDevice → Bool
any_behind port [] = false
any_behind port (device ∷ devices) = cond (eqb device.port port) true (any_behind port devices)

-- a write that is answered so reaches this port
abbrev pub answer_reaches : ℕ → Reply (Addressed (List PortDevice)) → Bool
answer_reaches port (refused_with number detail) = false
answer_reaches port (given the_hub) = false
answer_reaches port (given no_device) = false
answer_reaches port (given (found devices)) = any_behind port devices

-- a write to the address reaches the port: a device behind the port hears it
unfoldable pub address_reaches : Hub → ℕ → ℕ → Bool
address_reaches hub address port = answer_reaches port (who_hears_write hub address)

-- the test holds of a number below n
unfoldable pub any_below : (ℕ → Bool) → ℕ → Bool
any_below test zero = false
any_below test (suc n) = cond (test n) true (any_below test n)

-- a write to one of the 128 addresses of the bus reaches the port
unfoldable pub is_reached : Hub → ℕ → Bool
is_reached hub port = any_below (λ address. address_reaches hub address port) 128

-- `no-address`: "a forwarded port of which no device hears a write to any address"
unfoldable pub has_no_address : Hub → ℕ → Bool
has_no_address hub port = is_forwarded hub port && not (is_reached hub port)

-- a device behind the port that hears a write to the address
pub record Hearer (hub : Hub) (address port : ℕ) : Type 0 where
  pub device : PortDevice
  pub hears : HearsWrite hub address device
  pub behind : device.port ≡ port

-- a write reaches a port exactly where a device behind it hears the write
pub record AddressReachesMeans (hub : Hub) (address port : ℕ) : Type 0 where
  pub only : address_reaches hub address port ≡ true → Hearer hub address port
  pub every : Hearer hub address port → address_reaches hub address port ≡ true

abbrev pub AddressReachesExact : Type 0
AddressReachesExact = (hub : Hub) (address port : ℕ) → AddressReachesMeans hub address port

-- `same-address`: "a write to an address reaches two or more ports"
abbrev pub address_shared : Hub → ℕ → Bool
address_shared hub address = several_ports (port_mask (address_reaches hub address))

-- two ports, and a device behind each that hears a write to the address
pub record TwoHearers (hub : Hub) (address : ℕ) : Type 0 where
  pub low : ℕ
  pub high : ℕ
  pub rising : low < high
  pub within : high < 4
  pub first : Hearer hub address low
  pub second : Hearer hub address high

-- a write reaches two or more ports exactly where there are two such
pub record AddressSharedMeans (hub : Hub) (address : ℕ) : Type 0 where
  pub only : address_shared hub address ≡ true → TwoHearers hub address
  pub every : TwoHearers hub address → address_shared hub address ≡ true

abbrev pub AddressSharedExact : Type 0
AddressSharedExact = (hub : Hub) (address : ℕ) → AddressSharedMeans hub address

-- an address that reaches the port
pub record AddressOf (hub : Hub) (port : ℕ) : Type 0 where
  pub address : ℕ
  pub reached : address_reaches hub address port ≡ true

-- a port is reached exactly where some address, of any size, reaches it
pub record ReachedMeans (hub : Hub) (port : ℕ) : Type 0 where
  pub only : is_reached hub port ≡ true → AddressOf hub port
  pub every : AddressOf hub port → is_reached hub port ≡ true

abbrev pub ReachedExact : Type 0
ReachedExact = (hub : Hub) (port : ℕ) → ReachedMeans hub port

-- An address above 0x7F reaches no port, and so is not shared: the 128 addresses that are looked at are all there are.
pub record ReachesNone (hub : Hub) (address : ℕ) : Type 0 where
  pub unreached : (port : ℕ) → address_reaches hub address port ≡ false
  pub unshared : address_shared hub address ≡ false

abbrev pub OnlyTheseAddresses : Type 0
OnlyTheseAddresses = (hub : Hub) (address : ℕ) → 127 < address → ReachesNone hub address

-- "a forwarded port of which no device hears a write to any address", of any size
pub record NoAddress (hub : Hub) (port : ℕ) : Type 0 where
  pub forwarded : is_forwarded hub port ≡ true
  pub unheard : (address : ℕ) → Hearer hub address port → ⊥

-- every such port is found, and nothing else is
pub record NoAddressMeans (hub : Hub) (port : ℕ) : Type 0 where
  pub only : has_no_address hub port ≡ true → NoAddress hub port
  pub every : NoAddress hub port → has_no_address hub port ≡ true

abbrev pub NoAddressExact : Type 0
NoAddressExact = (hub : Hub) (port : ℕ) → NoAddressMeans hub port
