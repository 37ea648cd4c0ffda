-- The trace of calls, played to its end.
-- Assumes nothing.
use Rattle.std.specs.Prelude.{◌≡◌, true, List, ℕ}
use Rattle.registers.specs.declared.PageAccess.TheVariants.{Selection}
use Rattle.registers.specs.declared.power_up.PowerUp.{PowerUp}
use Rattle.registers.specs.PowerUps.{power_up_file}
use Rattle.registers.specs.Bursts.{RegisterWrite, write_each}
use Rattle.hub.specs.Hubs.{hub_with, is_hub_address}
use Rattle.script.specs.Traces.{trace_of}
use Rattle.playback.specs.Playing.{end_hub}

-- The player ends with the hub at that address, as it was made but for its registers: those of its start and the calls.
abbrev pub CallsArePlayed : Type 0
CallsArePlayed =
    (address : ℕ) (start : PowerUp) (calls : List RegisterWrite) → is_hub_address address ≡ true
    → end_hub (trace_of address start calls) ≡ hub_with (write_each Selection (power_up_file start) calls) address
