-- The findings by what a write does, after the writes before it from a start.
-- Assumes nothing.
use Rattle.std.specs.Prelude.{◌≡◌, ℕ, ◌+◌, ◌%◌, ◌<◌, Bool, not, ◌&&◌, ◌||◌, List, ◌==◌, nat_le, nat_lt}
use Rattle.laws.specs.Bits.{bit}
use Rattle.registers.specs.declared.RegisterFile.{RegisterFile}
use Rattle.registers.specs.RegisterMap.{per_port, SER_ALIAS_ID, TARGET_ALIAS_0}
use Rattle.registers.specs.RegisterFiles.{selection}
use Rattle.ports.specs.PortMasks.{port_mask}
use Rattle.origins.specs.declared.effects.Effect.{Effect}
use Rattle.origins.specs.declared.NumberedWrite.{NumberedWrite}
use Rattle.origins.specs.Origins.{shared_register, port_register, is_writable, reaches, after_each, FileOfBytes}
use Rattle.origins.specs.Effects.{changes, ignores_bits}
use Rattle.findings.specs.ByEffect.{is_not_followed, is_no_port, reached_by, ignores_by, keeps_all_by}
use Rattle.findings.specs.WritesSoFar.{so_far, effect_now}

-- some port is in a set
abbrev pub any_port : ℕ → Bool
any_port mask = not (mask == 0)

-- the ports whose register the write reaches
abbrev pub ports_reached : RegisterFile → ℕ → ℕ
ports_reached file offset = port_mask (λ port. reaches file offset (port_register port offset))

-- "a register was reached", the shared one or that of a port
abbrev pub any_reached : RegisterFile → ℕ → Bool
any_reached file offset = reaches file offset (shared_register offset) || any_port (ports_reached file offset)

-- a register gets another value, the shared one or that of a port
abbrev pub any_changed : RegisterFile → ℕ → ℕ → Bool
any_changed file offset value =
    changes file offset value (shared_register offset)
    || any_port (port_mask (λ port. changes file offset value (port_register port offset)))

-- 0x5C or 0x65 to 0x6C
abbrev pub is_alias_register : ℕ → Bool
is_alias_register offset = offset == SER_ALIAS_ID || (nat_le TARGET_ALIAS_0 offset && nat_lt offset (TARGET_ALIAS_0 + 8))

abbrev pub is_odd : ℕ → Bool
is_odd value = value % 2 == 1

-- `not-followed`: "no bit of the register is writable"
unfoldable pub not_followed : NumberedWrite → Bool
not_followed w = not (is_writable w.offset)

-- `no-port`: "a per-port register is written while no port is ticked"
unfoldable pub no_port : RegisterFile → List NumberedWrite → NumberedWrite → Bool
no_port start before w =
    per_port w.offset && not (any_port (port_mask (λ port. bit port (selection (after_each start before)))))

-- `bits-ignored`: "a register was reached and the value has bits that are not writable in it"
unfoldable pub bits_ignored : RegisterFile → List NumberedWrite → NumberedWrite → Bool
bits_ignored start before w = any_reached (after_each start before) w.offset && ignores_bits w.offset w.value

-- `no-change`: "registers were reached and all keep their values"
unfoldable pub no_change : RegisterFile → List NumberedWrite → NumberedWrite → Bool
no_change start before w =
    let file = after_each start before in
    any_reached file w.offset && not (any_changed file w.offset w.value)

-- `odd-alias`: "0x5C or 0x65 to 0x6C of some port gets an odd value"
unfoldable pub odd_alias : RegisterFile → List NumberedWrite → NumberedWrite → Bool
odd_alias start before w =
    is_alias_register w.offset && (any_port (ports_reached (after_each start before) w.offset) && is_odd w.value)

-- How the code finds an odd alias.
unfoldable pub odd_alias_by : Effect → NumberedWrite → Bool
odd_alias_by effect w = is_alias_register w.offset && (any_port (reached_by effect) && is_odd w.value)

-- What the code says of a write, by what it knows after the writes before, is what the sentence says of it.
abbrev pub PortsReachedExact : Type 0
PortsReachedExact =
    (start : RegisterFile) (before : List NumberedWrite) (w : NumberedWrite)
    → reached_by (effect_now (so_far start before) w)
    ≡ ports_reached (after_each start before) w.offset

abbrev pub NotFollowedExact : Type 0
NotFollowedExact =
    (start : RegisterFile) (before : List NumberedWrite) (w : NumberedWrite)
    → is_not_followed (effect_now (so_far start before) w) ≡ not_followed w

abbrev pub NoPortExact : Type 0
NoPortExact =
    (start : RegisterFile) (before : List NumberedWrite) (w : NumberedWrite)
    → is_no_port (effect_now (so_far start before) w) ≡ no_port start before w

abbrev pub BitsIgnoredExact : Type 0
BitsIgnoredExact =
    (start : RegisterFile) (before : List NumberedWrite) (w : NumberedWrite)
    → ignores_by (effect_now (so_far start before) w) ≡ bits_ignored start before w

-- (`FileOfBytes` holds of every value of the type RegisterFile, and an offset is a byte.)
abbrev pub NoChangeExact : Type 0
NoChangeExact =
    (start : RegisterFile) → FileOfBytes start → (before : List NumberedWrite) (w : NumberedWrite) → w.offset < 256
    → keeps_all_by (effect_now (so_far start before) w) ≡ no_change start before w

abbrev pub OddAliasExact : Type 0
OddAliasExact =
    (start : RegisterFile) (before : List NumberedWrite) (w : NumberedWrite)
    → odd_alias_by (effect_now (so_far start before) w) w
    ≡ odd_alias start before w
