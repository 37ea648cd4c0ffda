-- The definitions of specs/Addresses.antt by their cases, and the laws of it.
-- Assumes nothing.
use Rattle.std.specs.Prelude.{Option}
use mathlib.Core.Path.{◌≡◌, refl, ap, ◌∙◌}
use mathlib.Core.Bool.{Bool, true, false, cond}
use lib.Dec.{ltb}
use mathlib.Core.List.{List, [], ◌∷◌, ◌++◌}
use Prim.Native.Nat.{ℕ, suc, ◌*◌, ◌≤◌, ◌<◌}
use native.Mathlib.Omega.{arith}
use lib.ListN.{length, get_or, drop, get_or-eq_default}
use Rattle.laws.specs.Reply.{Reply, refused_with, given}
use Rattle.registers.specs.RegisterMap.{BCC_CONFIG}
use Rattle.hub.specs.declared.Hub.{Hub}
use Rattle.translation.specs.declared.Remote.{Remote}
use Rattle.translation.specs.declared.PortDevice.{PortDevice}
use Rattle.translation.specs.declared.Devices.{Devices}
use Rattle.translation.specs.Translation.{Addressed, the_hub, no_device, found, devices_of, who_hears_write}
use Rattle.translation.proofs.Laws.{write_reaches_ports}
use Rattle.ports.specs.PortMasks.{port_mask}
use Rattle.origins.specs.declared.RegistersWithOrigins.{RegistersWithOrigins}
use Rattle.origins.specs.Origins.{port_register}
use Rattle.origins.specs.KeptOrigins.{port_origin, past_last, kept_number}
use Rattle.clashes.specs.Addresses.{address_reaches}
use Rattle.clashes.proofs.AddressLaws.{none_past_four}
use Rattle.endstate.specs.declared.findings.Clash.{Clash}
use Rattle.endstate.specs.declared.gathering.Gathered.{Gathered}
use Rattle.endstate.specs.declared.lines.Lines.{Lines}
use Rattle.endstate.specs.RisingLines.{rising_lines, with_line}
use Rattle.endstate.specs.LineRows.{lines_of, lines_row}
use Rattle.endstate.specs.Findings.{clash_of}
use Rattle.endstate.specs.Gathering.{gathered_of, clash_by}
use Rattle.endstate.specs.Addresses.{register_for, register_origin, alias_origin, remote_origin, device_origins}
use Rattle.endstate.specs.Addresses.{devices_origins, alias_origins, hearers, address_lines, same_address}
use Rattle.endstate.specs.Addresses.{AddressLinesHeld}
use Rattle.endstate.proofs.LineRows.{line_more, row_holds}
use Rattle.endstate.proofs.GatheringLaws.{clash_by_lem}

-- there is no register past 0xFF
none_there : (port : ℕ) → port_origin past_last port ≡ 0
none_there port = go (ltb 3 port)
  where
    go : (b : Bool) → ◌≡◌ {A = ℕ} (cond b 0 (get_or [] port 0)) 0
    go true = refl
    go false = refl

pub past_the_end : (state : RegistersWithOrigins) (port offset : ℕ) → length state.origins ≡ 256 → 255 < offset
    → kept_number state (port_register port offset) ≡ 0
unfolding kept_number
past_the_end state port offset size h =
    let out : length state.origins ≤ offset = omega arith in
    rw (get_or-eq_default state.origins past_last out) (none_there port)

module _ (state : RegistersWithOrigins) (device : PortDevice) where
  pub register_by : (serializer targets : ℕ) (remote : Remote) → device.remote ≡ remote
      → kept_number state (port_register device.port (register_for remote serializer targets))
      ≡ register_origin state device serializer targets
  unfolding register_origin
  register_by serializer targets remote e = rw e

  -- the lines with those of one device more
  pub device_more : (numbers : List ℕ) {before one two three : Lines} {pass alias remote : ℕ}
      → before ≡ lines_row (rising_lines numbers)
      → remote ≡ remote_origin state device → one ≡ lines_row (with_line remote (lines_of before))
      → alias ≡ alias_origin state device → two ≡ lines_row (with_line alias (lines_of one))
      → pass ≡ kept_number state (port_register device.port BCC_CONFIG)
      → three ≡ lines_row (with_line pass (lines_of two))
      → three ≡ lines_row (rising_lines (device_origins state device ++ numbers))
  unfolding device_origins
  device_more numbers e er e1 ea e2 ep e3 =
      line_more _ _ (line_more _ _ (line_more numbers _ e er e1) ea e2) ep e3

-- the lines of a list of devices, one device more
module _ (state : RegistersWithOrigins) where
  pub no_device_lem : {lines : Lines} → lines ≡ lines_row [] → lines ≡ lines_row (rising_lines (devices_origins state []))
  unfolding devices_origins rising_lines
  no_device_lem e = e

  pub no_alias : {gathered : Gathered} → gathered ≡ gathered_of [] → gathered ≡ gathered_of (alias_origins state [])
  unfolding alias_origins
  no_alias e = e

  -- before the last device there is nothing
  module _ (devices : Devices) where
    pub lines_start : {lines : Lines} → lines ≡ lines_row []
        → lines ≡ lines_row (rising_lines (devices_origins state (drop 4 (devices_of devices))))
    lines_start e = rw (none_past_four devices 4 (omega arith)) (no_device_lem e)

    pub aliases_start : {gathered : Gathered} → gathered ≡ gathered_of []
        → gathered ≡ gathered_of (alias_origins state (drop 4 (devices_of devices)))
    aliases_start e = rw (none_past_four devices 4 (omega arith)) (no_alias e)

  -- one device alone
  pub device_alone : (device : PortDevice) {before after : Lines} → before ≡ lines_row []
      → ((numbers : List ℕ) → before ≡ lines_row (rising_lines numbers)
      → after ≡ lines_row (rising_lines (device_origins state device ++ numbers)))
      → after ≡ lines_row (rising_lines (device_origins state device))
  unfolding device_origins rising_lines
  device_alone device e f = f ([]) e

  module _ (device : PortDevice) (devices : List PortDevice) where
    pub one_device : {before after : Lines} → before ≡ lines_row (rising_lines (devices_origins state devices))
        → ((numbers : List ℕ) → before ≡ lines_row (rising_lines numbers)
        → after ≡ lines_row (rising_lines (device_origins state device ++ numbers)))
        → after ≡ lines_row (rising_lines (devices_origins state (device ∷ devices)))
    unfolding devices_origins
    one_device e f = f (devices_origins state devices) e

    -- and so the origins of their aliases
    pub one_alias : {before after : Gathered} → before ≡ gathered_of (alias_origins state devices)
        → ((numbers : List ℕ) → before ≡ gathered_of numbers → after ≡ gathered_of (alias_origin state device ∷ numbers))
        → after ≡ gathered_of (alias_origins state (device ∷ devices))
    unfolding alias_origins
    one_alias e f = f (alias_origins state devices) e

  three_each : (devices : List PortDevice) → length (devices_origins state devices) ≡ length devices * 3
  unfolding devices_origins device_origins
  three_each [] = refl
  three_each (device ∷ devices) = omega (arith, three_each devices)

  one_each : (devices : List PortDevice) → length (alias_origins state devices) ≡ length devices
  unfolding alias_origins
  one_each [] = refl
  one_each (device ∷ devices) = ap suc (one_each devices)

pub address_by : (hub : Hub) (state : RegistersWithOrigins) (address : ℕ) {mask : ℕ} {gathered : Gathered}
    {clash : Option Clash} → mask ≡ port_mask (address_reaches hub address)
    → gathered ≡ gathered_of (alias_origins state (hearers (who_hears_write hub address)))
    → clash ≡ clash_by mask gathered false → clash ≡ clash_of (same_address hub state address)
unfolding same_address
address_by hub state address {mask} m g f =
    f ∙ rw g (clash_by_lem mask (alias_origins state (hearers (who_hears_write hub address))) false ∙ rw m)

-- at most four devices hear a write, and so the row has all lines
module _ (hub : Hub) (address : ℕ) where
  few_hearers : length (hearers (who_hears_write hub address)) ≤ 4
  few_hearers = go (who_hears_write hub address) refl
    where
      go : (reply : Reply (Addressed (List PortDevice))) → who_hears_write hub address ≡ reply
          → length (hearers reply) ≤ 4
      go (refused_with number detail) e = omega arith
      go (given the_hub) e = omega arith
      go (given no_device) e = omega arith
      go (given (found devices)) e = (write_reaches_ports hub address devices e).few

  module _ (state : RegistersWithOrigins) where
    pub few_aliases : length (alias_origins state (hearers (who_hears_write hub address))) ≤ 12
    few_aliases = omega (arith, few_hearers, one_each state (hearers (who_hears_write hub address)))

    few_lines : length (devices_origins state (hearers (who_hears_write hub address))) ≤ 12
    few_lines = omega (arith, few_hearers, three_each state (hearers (who_hears_write hub address)))

pub address_lines_held : AddressLinesHeld
unfolding address_lines
address_lines_held hub state address =
    row_holds (devices_origins state (hearers (who_hears_write hub address))) (few_lines hub address state)
