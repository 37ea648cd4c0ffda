-- Laws of the two questions, for whoever uses their answers.
-- Assumes nothing.
use Rattle.std.specs.Prelude.{◌≡◌, ℕ, ◌≤◌, ◌<◌, length}
use mathlib.Core.List.{List, Memᴰ}
use Rattle.laws.specs.Reply.{given}
use Rattle.hub.specs.declared.Hub.{Hub}
use Rattle.translation.specs.declared.PortDevice.{PortDevice}
use Rattle.translation.specs.Translation.{the_hub, no_device, found, who_hears_write, who_answers_read}

-- who hears a write depends on the pages and the own address alone
abbrev pub SameWriteAnswer : Type 0
SameWriteAnswer =
    (a b : Hub) → a.registers.pages ≡ b.registers.pages → a.address ≡ b.address
    → (address : ℕ) → who_hears_write a address ≡ who_hears_write b address

-- the devices that hear a write are at most four, each behind a port below 4
pub record BehindPorts (devices : List PortDevice) : Type 0 where
  pub few : length devices ≤ 4
  pub ports : (device : PortDevice) → Memᴰ device devices → device.port < 4

abbrev pub WriteReachesPorts : Type 0
WriteReachesPorts =
    (hub : Hub) (address : ℕ) (devices : List PortDevice) → who_hears_write hub address ≡ given (found devices)
    → BehindPorts devices

-- the device that answers a read is behind a port below 4
abbrev pub ReadReachesPort : Type 0
ReadReachesPort =
    (hub : Hub) (address : ℕ) (device : PortDevice) → who_answers_read hub address ≡ given (found device)
    → device.port < 4

-- a device among those that hear a write to the address
pub record HearsWrite (hub : Hub) (address : ℕ) (device : PortDevice) : Type 0 where
  pub devices : List PortDevice
  pub answer : who_hears_write hub address ≡ given (found devices)
  pub member : Memᴰ device devices

-- Whoever answers a read hears a write too, and where nobody hears a write nobody answers a read: "A write reaches
-- every matching port's device [...] A read is answered by the read port if that port matches; else by the one matching
-- port"
pub record ReaderHears (hub : Hub) (address : ℕ) : Type 0 where
  pub device : (device : PortDevice) → who_answers_read hub address ≡ given (found device)
      → HearsWrite hub address device
  pub the_hub : who_answers_read hub address ≡ given the_hub → who_hears_write hub address ≡ given the_hub
  pub none : who_hears_write hub address ≡ given no_device → who_answers_read hub address ≡ given no_device

abbrev pub EveryReaderHears : Type 0
EveryReaderHears = (hub : Hub) (address : ℕ) → ReaderHears hub address
