-- `not-set-up`: "a forwarded port of which no per-port register was ever reached, while another port's was. Line: the
-- origin of 0x20."
-- Assumes nothing.
use Rattle.std.specs.Prelude.{◌≡◌, Bool, true, not, ◌&&◌, ℕ, ◌<◌, eqb}
use Rattle.hub.specs.declared.Hub.{Hub}
use Rattle.origins.specs.declared.RegistersWithOrigins.{RegistersWithOrigins}
use Rattle.origins.specs.Origins.{port_register}
use Rattle.origins.specs.KeptOrigins.{kept_number}
use Rattle.clashes.specs.Channels.{is_forwarded}
use Rattle.clashes.specs.Addresses.{any_below}

-- a register of the port has an origin
abbrev pub has_origin : RegistersWithOrigins → ℕ → ℕ → Bool
has_origin state port offset = not (eqb (kept_number state (port_register port offset)) 0)

-- some register of the port was reached
unfoldable pub was_reached : RegistersWithOrigins → ℕ → Bool
was_reached state port = any_below (has_origin state port) 256

-- of a port that is another one
abbrev pub other_reached : RegistersWithOrigins → ℕ → ℕ → Bool
other_reached state port other = not (eqb other port) && was_reached state other

unfoldable pub another_reached : RegistersWithOrigins → ℕ → Bool
another_reached state port = any_below (other_reached state port) 4

unfoldable pub not_set_up : Hub → RegistersWithOrigins → ℕ → Bool
not_set_up hub state port = is_forwarded hub port && (not (was_reached state port) && another_reached state port)

-- a register of the port that has an origin
pub record ReachedRegister (state : RegistersWithOrigins) (port : ℕ) : Type 0 where
  pub offset : ℕ
  pub within : offset < 256
  pub origin : kept_number state (port_register port offset) ≡ 0 → ⊥

-- "a forwarded port of which no per-port register was ever reached, while another port's was"
pub record NotSetUp (hub : Hub) (state : RegistersWithOrigins) (port : ℕ) : Type 0 where
  pub forwarded : is_forwarded hub port ≡ true
  pub unreached : (offset : ℕ) → offset < 256 → kept_number state (port_register port offset) ≡ 0
  pub other : ℕ
  pub within : other < 4
  pub another : other ≡ port → ⊥
  pub reached : ReachedRegister state other

-- every finding is there, and nothing else is
pub record NotSetUpMeans (hub : Hub) (state : RegistersWithOrigins) (port : ℕ) : Type 0 where
  pub only : not_set_up hub state port ≡ true → NotSetUp hub state port
  pub every : NotSetUp hub state port → not_set_up hub state port ≡ true

abbrev pub NotSetUpExact : Type 0
NotSetUpExact = (hub : Hub) (state : RegistersWithOrigins) (port : ℕ) → NotSetUpMeans hub state port
