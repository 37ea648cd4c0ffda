-- What the code finds of a write by its effect. What that means: `AtWrites`.
-- Assumes nothing.
use Rattle.std.specs.Prelude.{ℕ, Bool, true, false, not, ◌==◌}
use Rattle.laws.specs.Bits.{bit}
use Rattle.origins.specs.declared.effects.Effect.{Effect}
use Rattle.origins.specs.declared.effects.Effect.TheVariants.{NotFollowed, NoPort, Selected, Shared, Ports}

abbrev pub is_not_followed : Effect → Bool
is_not_followed NotFollowed = true
is_not_followed NoPort = false
is_not_followed (Selected ports changed ignored) = false
is_not_followed (Shared changed ignored) = false
is_not_followed (Ports reached changed ignored) = false

abbrev pub is_no_port : Effect → Bool
is_no_port NotFollowed = false
is_no_port NoPort = true
is_no_port (Selected ports changed ignored) = false
is_no_port (Shared changed ignored) = false
is_no_port (Ports reached changed ignored) = false

-- the ports whose register is reached
abbrev pub reached_by : Effect → ℕ
reached_by NotFollowed = 0
reached_by NoPort = 0
reached_by (Selected ports changed ignored) = 0
reached_by (Shared changed ignored) = 0
reached_by (Ports reached changed ignored) = reached

-- a register is reached, and bits of the value are not writable
abbrev pub ignores_by : Effect → Bool
ignores_by NotFollowed = false
ignores_by NoPort = false
ignores_by (Selected ports changed ignored) = ignored
ignores_by (Shared changed ignored) = ignored
ignores_by (Ports reached changed ignored) = ignored

-- registers are reached, and none changes
abbrev pub keeps_all_by : Effect → Bool
keeps_all_by NotFollowed = false
keeps_all_by NoPort = false
keeps_all_by (Selected ports changed ignored) = not changed
keeps_all_by (Shared changed ignored) = not changed
keeps_all_by (Ports reached changed ignored) = changed == 0

-- the register of a port changes
abbrev pub changes_port : Effect → ℕ → Bool
changes_port NotFollowed port = false
changes_port NoPort port = false
changes_port (Selected ports changed ignored) port = false
changes_port (Shared changed ignored) port = false
changes_port (Ports reached changed ignored) port = bit port changed
