-- The writes of a trace are those that the player runs, and it is refused exactly where the player's run ends early.
-- Assumes nothing.
use Rattle.std.specs.Prelude.{◌≡◌, Bool, true, ◌&&◌, ◌||◌, List, [], ◌∷◌, ◌++◌, ℕ, ◌+◌, ◌≤◌, eqb, length}
use Rattle.laws.specs.Reply.{Reply, refused, refused_at, given}
use Rattle.registers.specs.PowerUps.{power_up_file}
use Rattle.origins.specs.Origins.{after_each}
use Rattle.tracewrites.specs.TraceWrites.{TraceWrites, trace_writes}
use Rattle.answers.specs.Answers.{Answer}
use Rattle.playback.specs.Playing.{answers_of, end_hub}

-- the player ends with a hub that has that address, and the registers after that start and those writes
pub record PlaysTo (trace : List ℕ) (writes : TraceWrites) : Type 0 where
  pub address : (end_hub trace).address ≡ writes.hub
  pub registers : (end_hub trace).registers ≡ after_each (power_up_file writes.start) writes.writes

abbrev pub WritesArePlayed : Type 0
WritesArePlayed =
    (trace : List ℕ) (writes : TraceWrites) → trace_writes trace ≡ given writes → PlaysTo trace writes

-- refusal 13: "It, or 2 in record 1, ends the run"
abbrev pub ends_run : ℕ → ℕ → Bool
ends_run refusal number = eqb refusal 13 || (eqb refusal 2 && eqb number 1)

-- the last record that the player answers has that number, and is refused so, which ends the run (a later question that
-- is refused 2 ends nothing)
pub record RunEndsAt (trace : List ℕ) (refusal number : ℕ) : Type 0 where
  pub earlier : List (Reply Answer)
  pub answers : answers_of trace ≡ earlier ++ (refused refusal ∷ [])
  pub count : number ≡ length earlier + 1
  pub ending : ends_run refusal number ≡ true

-- An empty trace has no record; every other that is refused is refused at the record that ends the player's run.
abbrev pub RefusedWhereRunEnds : Type 0
RefusedWhereRunEnds =
    (trace : List ℕ) (refusal number : ℕ) → 1 ≤ length trace → trace_writes trace ≡ refused_at refusal number
    → RunEndsAt trace refusal number

-- The other way: every trace whose run ends at a record is refused there.
abbrev pub EndedRunRefused : Type 0
EndedRunRefused =
    (trace : List ℕ) (refusal number : ℕ) → RunEndsAt trace refusal number
    → trace_writes trace ≡ refused_at refusal number

-- no record ends the run
abbrev pub RunGoesOn : List ℕ → Type 0
RunGoesOn trace = (refusal number : ℕ) → RunEndsAt trace refusal number → ⊥

-- So there are writes exactly where the trace is not empty and no record ends the run.
pub record TakenMeans (trace : List ℕ) : Type 0 where
  pub only : (writes : TraceWrites) → trace_writes trace ≡ given writes → (1 ≤ length trace) × RunGoesOn trace
  pub every : 1 ≤ length trace → RunGoesOn trace → (writes : TraceWrites) × (trace_writes trace ≡ given writes)

abbrev pub TakenExactly : Type 0
TakenExactly = (trace : List ℕ) → TakenMeans trace
