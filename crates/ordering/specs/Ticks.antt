-- Which selection ticked a port last.
-- Assumes nothing.
use Rattle.std.specs.Prelude.{◌≡◌, ℕ, Bool, true, false, cond, ◌&&◌, ◌||◌, List, [], ◌∷◌, ◌++◌, replicate}
use Rattle.std.specs.Prelude.{slice_index_or, slice_set, Option, None, Some}
use mathlib.Core.List.{Memᴰ}
use Rattle.std.proofs.Math.Option.{Option as Maybe, none, some}
use Rattle.laws.specs.Bits.{bit}
use Rattle.origins.specs.declared.NumberedWrite.{NumberedWrite}
use Rattle.origins.specs.Origins.{later_or}
use Rattle.ordering.specs.declared.ticks.Ticks.{Ticks}
use Rattle.ordering.specs.Kinds.{kind, is_selection}

-- the write is a selection, and ticks the port: "In 0x4C, bits 3 to 0 tick the ports to be written"
abbrev pub ticks_port : ℕ → NumberedWrite → Bool
ticks_port port w = is_selection (kind w) && bit port w.value

-- of the writes of a list the last that ticks the port
unfoldable pub last_ticking : ℕ → List NumberedWrite → Maybe NumberedWrite
last_ticking port [] = none
last_ticking port (w ∷ ws) = later_or (last_ticking port ws) (cond (ticks_port port w) (some w) none)

-- a write of the list that ticks the port, as none does after it
pub record LastOf (port : ℕ) (ws : List NumberedWrite) (w : NumberedWrite) : Type 0 where
  pub before : List NumberedWrite
  pub after : List NumberedWrite
  pub parts : ws ≡ before ++ (w ∷ after)
  pub ticks : ticks_port port w ≡ true
  pub later : (u : NumberedWrite) → Memᴰ u after → ticks_port port u ≡ false

-- it is that write, and there is one exactly where some write ticks the port
pub record LastTickingMeans (port : ℕ) (ws : List NumberedWrite) : Type 0 where
  pub only : (w : NumberedWrite) → last_ticking port ws ≡ some w → LastOf port ws w
  pub every : (w : NumberedWrite) → LastOf port ws w → last_ticking port ws ≡ some w
  pub nowhere : last_ticking port ws ≡ none → (u : NumberedWrite) → Memᴰ u ws → ticks_port port u ≡ false

abbrev pub LastTickingExact : Type 0
LastTickingExact = (port : ℕ) (ws : List NumberedWrite) → LastTickingMeans port ws

-- its number
abbrev pub tick_of : Maybe NumberedWrite → Option ℕ
tick_of none = None
tick_of (some w) = Some w.number

abbrev pub was_ticked : Option ℕ → Bool
was_ticked None = false
was_ticked (Some number) = true

-- How the code keeps it.
unfoldable pub no_ticks : Ticks
no_ticks = record { ports = replicate 4 None }

unfoldable pub last_tick : Ticks → ℕ → Option ℕ
last_tick ticks port = slice_index_or ticks.ports port None

unfoldable pub with_tick : Ticks → ℕ → ℕ → ℕ → Ticks
with_tick ticks number value port =
    cond (bit port value) (record { ports = slice_set ticks.ports port (Some number) }) ticks

unfoldable pub with_ticks : Ticks → ℕ → ℕ → Ticks
with_ticks ticks number value =
    with_tick (with_tick (with_tick (with_tick ticks number value 0) number value 1) number value 2) number value 3

-- a selection with this value ticks a port that was ticked before
unfoldable pub ticks_again : Ticks → ℕ → ℕ → Bool
ticks_again ticks value port = bit port value && was_ticked (last_tick ticks port)

unfoldable pub any_again : Ticks → ℕ → Bool
any_again ticks value =
    ticks_again ticks value 0 || (ticks_again ticks value 1 || (ticks_again ticks value 2 || ticks_again ticks value 3))
