-- The trace that a script's calls make: L1 and L5.
-- Assumes nothing.
use Rattle.std.specs.Prelude.{List, [], ◌∷◌, ◌++◌, ℕ, length}
use Rattle.trace.specs.Framing.{record_bytes}
use Rattle.trace.specs.Records.{hub_data}
use Rattle.registers.specs.declared.power_up.PowerUp.{PowerUp}
use Rattle.registers.specs.Bursts.{RegisterWrite}

-- "for each call in order a write record of one value"
unfoldable pub write_records : List RegisterWrite → List ℕ
write_records [] = []
write_records (call ∷ calls) = record_bytes 0x01 (call.offset ∷ call.value ∷ []) ++ write_records calls

-- "each has one trace: the hub record, then for each call in order a write record of one value";
-- L5: "In L1 the agent gives the start with the address"
unfoldable pub trace_of : ℕ → PowerUp → List RegisterWrite → List ℕ
trace_of address start calls = record_bytes 0x00 (hub_data address start) ++ write_records calls

-- how many bytes the hub record has, whatever the address
abbrev pub hub_length : PowerUp → ℕ
hub_length start = length (record_bytes 0x00 (hub_data 0 start))
