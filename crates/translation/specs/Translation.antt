-- I2C address translation: document 01, "Who hears an address".
-- Assumes nothing.
use Rattle.std.specs.Prelude.{Bool, cond, not, ◌&&◌, List, [], ◌∷◌, ℕ, zero, suc, ◌+◌, ◌/◌, eqb, ltb}
use Rattle.std.specs.Prelude.{Option, Some, None, Result}
use Rattle.laws.specs.Bits.{bit}
use Rattle.laws.specs.Reply.{Reply, refused, given, on_reply, reply_by}
use Rattle.registers.specs.RegisterMap.{BCC_CONFIG, SER_ID, SER_ALIAS_ID, TARGET_ID_0, TARGET_ALIAS_0}
use Rattle.registers.specs.RegisterFiles.{page_at, read_port}
use Rattle.hub.specs.declared.Hub.{Hub as HubState}
use Rattle.translation.specs.declared.Remote.{Remote}
use Rattle.translation.specs.declared.Remote.TheVariants.{Serializer, Target}
use Rattle.translation.specs.declared.PortDevice.{PortDevice}
use Rattle.translation.specs.declared.Devices.{Devices}
use Rattle.translation.specs.declared.WriteRefusal.{WriteRefusal}
use Rattle.translation.specs.declared.ReadRefusal.{ReadRefusal}
use Rattle.translation.specs.Refusals.{write_refusal_number, read_refusal_number}
use Rattle.translation.specs.declared.Addressed.{Addressed as SourceAddressed}
use Rattle.translation.specs.declared.Addressed.TheVariants.{Hub, NoDevice, Found}

-- the address in bits 7 to 1 of a register
abbrev pub address7 : ℕ → ℕ
address7 register = register / 2

-- the alias register "has the address in bits 7 to 1. An alias of zero is off, so address 0 finds nobody."
unfoldable pub alias_matches : ℕ → ℕ → Bool
alias_matches register address = not (eqb (address7 register) 0) && eqb (address7 register) address

-- a port's device
abbrev pub device_on : ℕ → Remote → Option PortDevice
device_on port remote = Some (record { port = port; remote = remote })

-- of the n targets from number k on "the lowest-numbered target whose alias has the address in bits 7 to 1"
unfoldable pub target_from : List ℕ → ℕ → ℕ → ℕ → ℕ → Option PortDevice
target_from pages port address k zero = None
target_from pages port address k (suc n) =
    cond (alias_matches (page_at pages port (TARGET_ALIAS_0 + k)) address)
    (device_on port (Target k (address7 (page_at pages port (TARGET_ID_0 + k)))))
    (target_from pages port address (suc k) n)

-- "on each port whose 0x58 has bit 6 set: its serializer if the address equals bits 7 to 1 of 0x5C; else the
-- lowest-numbered target [...] The device addressed remotely is bits 7 to 1 of 0x5B or of that target's address
-- register, zero included." (Bit 6 is I2C_PASS_THROUGH.)
unfoldable pub on_port : List ℕ → ℕ → ℕ → Option PortDevice
on_port pages port address =
    cond (bit 6 (page_at pages port BCC_CONFIG))
    (cond (alias_matches (page_at pages port SER_ALIAS_ID) address)
    (device_on port (Serializer (address7 (page_at pages port SER_ID))))
    (target_from pages port address 0 8))
    None

-- each port's answer, "ports rising"
abbrev pub on_ports : List ℕ → ℕ → List (Option PortDevice)
on_ports pages address =
    on_port pages 0 address ∷ on_port pages 1 address ∷ on_port pages 2 address ∷ on_port pages 3 address ∷ []

-- the devices of the ports that match: "every matching port's device"
unfoldable pub receivers : List (Option PortDevice) → List PortDevice
receivers [] = []
receivers (None ∷ answers) = receivers answers
receivers (Some device ∷ answers) = device ∷ receivers answers

-- "An answer says hub, none, or a device": for a write, the devices
pub data Addressed (A : Type 0) : Type 0 where
  the_hub : Addressed A
  no_device : Addressed A
  found : A → Addressed A

-- whom an address may be for: nobody, because it has more than 7 bits; the hub; or devices behind the ports
pub data Addressee : Type 0 where
  OutOfRange : Addressee
  TheHub : Addressee
  Ports : Addressee

-- Whom an address is for, before the ports are asked. Refusal 2: "address above 0x7F"; "1. The hub's own address: the
-- hub alone. 2. Otherwise, on each port [...]"
unfoldable pub addressee_of : HubState → ℕ → Addressee
addressee_of hub address = cond (ltb 0x7F address) OutOfRange (cond (eqb address hub.address) TheHub Ports)

-- the answer to either question, where the ports give `byPorts`
abbrev pub answered_by : {A : Type 0} → Addressee → Reply (Addressed A) → Reply (Addressed A)
answered_by OutOfRange byPorts = refused 2
answered_by TheHub byPorts = given the_hub
answered_by Ports byPorts = byPorts

-- "A write reaches every matching port's device, ports rising. [...] No match gives the ordinary answer "none"."
abbrev pub reached : List PortDevice → Addressed (List PortDevice)
reached [] = no_device
reached (d ∷ ds) = found (d ∷ ds)

-- Who hears a write (the question's name is document 01's).
unfoldable pub who_hears_write : HubState → ℕ → Reply (Addressed (List PortDevice))
who_hears_write hub address =
    answered_by (addressee_of hub address) (given (reached (receivers (on_ports hub.registers.pages address))))

-- "A read is answered by the read port if that port matches; else by the one matching port if there is exactly one;
-- with two or more it is unclear", refusal 9
abbrev pub answered : Option PortDevice → List PortDevice → Reply (Addressed PortDevice)
answered (Some device) ds = given (found device)
answered None [] = given no_device
answered None (d ∷ []) = given (found d)
answered None (d ∷ e ∷ ds) = refused 9

-- who answers a read
unfoldable pub who_answers_read : HubState → ℕ → Reply (Addressed PortDevice)
who_answers_read hub address =
    let pages = hub.registers.pages in
    answered_by (addressee_of hub address)
    (answered (on_port pages (read_port hub.registers) address) (receivers (on_ports pages address)))

-- the devices that a write reaches, as a list
abbrev pub devices_of : Devices → List PortDevice
devices_of (Devices.One a) = a ∷ []
devices_of (Devices.Two a b) = a ∷ b ∷ []
devices_of (Devices.Three a b c) = a ∷ b ∷ c ∷ []
devices_of (Devices.Four a b c d) = a ∷ b ∷ c ∷ d ∷ []

-- the source's answer, with what it found as `f` says
abbrev pub addressed_by : {D A : Type 0} → (D → A) → SourceAddressed D → Addressed A
addressed_by f Hub = the_hub
addressed_by f NoDevice = no_device
addressed_by f (Found d) = found (f d)

-- the two answers, with the paper's numbers of the refusals
abbrev pub write_reply : Result (SourceAddressed Devices) WriteRefusal → Reply (Addressed (List PortDevice))
write_reply answer = on_reply (addressed_by devices_of) (reply_by write_refusal_number answer)

abbrev pub read_reply : Result (SourceAddressed PortDevice) ReadRefusal → Reply (Addressed PortDevice)
read_reply answer = on_reply (addressed_by (λ device. device)) (reply_by read_refusal_number answer)
