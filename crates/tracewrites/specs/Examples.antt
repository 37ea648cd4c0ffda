-- Short traces and their writes: a burst among records that write nothing, and a trace for each refusal.
-- Assumes nothing.
use Rattle.std.specs.Prelude.{◌≡◌, List, [], ◌∷◌, ◌++◌, ℕ}
use Rattle.laws.specs.Reply.{refused_at, given}
use Rattle.registers.specs.declared.power_up.PowerUp.TheVariants.{Boot, Reset}
use Rattle.origins.specs.declared.NumberedWrite.{NumberedWrite}
use Rattle.trace.specs.Framing.{record_bytes}
use Rattle.tracewrites.specs.TraceWrites.{trace_writes}

abbrev write : ℕ → ℕ → ℕ → NumberedWrite
write number offset value = record { number = number; offset = offset; value = value }

-- the hub 3D; port 1 is selected; a frame start on port 4, which there is not; three values from FF on
abbrev hub_and_selection : List ℕ
hub_and_selection = record_bytes 0x00 (0x3D ∷ []) ++ record_bytes 0x01 (0x4C ∷ 0x12 ∷ [])

abbrev frame_and_burst : List ℕ
frame_and_burst = record_bytes 0x10 (0x04 ∷ 0x0A ∷ []) ++ record_bytes 0x01 (0xFF ∷ 0x07 ∷ 0x08 ∷ 0x09 ∷ [])

pub record NumberedByRecords : Type 0 where
  pub writes : trace_writes (hub_and_selection ++ frame_and_burst)
      ≡ given (record {
        hub = 0x3D;
        start = Boot;
        writes = write 2 0x4C 0x12 ∷ write 4 0xFF 0x07 ∷ write 4 0x00 0x08 ∷ write 4 0x01 0x09 ∷ [];
      })

-- the hub record's second byte: 0 for the data sheet's reset, and no other, also where the address is none that a hub
-- has
pub record StartedByRecord : Type 0 where
  pub sheet : trace_writes (record_bytes 0x00 (0x3D ∷ 0x00 ∷ []))
      ≡ given (record { hub = 0x3D; start = Reset; writes = [] })
  pub no_address : trace_writes (record_bytes 0x00 (0x07 ∷ 0x00 ∷ [])) ≡ refused_at 2 1
  pub other_byte : trace_writes (record_bytes 0x00 (0x07 ∷ 0x01 ∷ [])) ≡ refused_at 13 1
  pub three_bytes : trace_writes (record_bytes 0x00 (0x3D ∷ 0x00 ∷ 0x00 ∷ [])) ≡ refused_at 13 1

-- a second hub record; one that is cut short; an address that no hub has; no hub record; an empty trace
pub record RefusedAtRecords : Type 0 where
  pub hub_again : trace_writes (hub_and_selection ++ record_bytes 0x00 (0x3D ∷ [])) ≡ refused_at 13 3
  pub cut_short : trace_writes (hub_and_selection ++ (frame_and_burst ++ (0x9A ∷ 0x64 ∷ []))) ≡ refused_at 13 5
  pub no_hub_address : trace_writes (record_bytes 0x00 (0x07 ∷ []) ++ frame_and_burst) ≡ refused_at 2 1
  pub no_hub_record : trace_writes frame_and_burst ≡ refused_at 13 1
  pub empty : trace_writes [] ≡ refused_at 13 0
