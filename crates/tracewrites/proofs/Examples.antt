-- The examples, computed.
-- Assumes nothing.
use mathlib.Core.Path.{refl}
use Rattle.registers.specs.Bursts.{burst_writes}
use Rattle.hub.specs.Hubs.{is_hub_address}
use Rattle.origins.specs.NumberedWrites.{numbered_as}
use Rattle.trace.specs.Framing.{framing_of, data_of}
use Rattle.trace.specs.Records.{hub_asked, kind_rows, kind_row_in, kind_record, record_of}
use Rattle.tracewrites.specs.TraceWrites.{after_asked, after_records, trace_writes}
use Rattle.tracewrites.specs.Examples.{NumberedByRecords, StartedByRecord, RefusedAtRecords}

pub numbered_by_records : NumberedByRecords
unfolding trace_writes after_records after_asked record_of kind_record kind_row_in kind_rows hub_asked framing_of data_of is_hub_address numbered_as burst_writes
numbered_by_records = record { writes = refl }

pub started_by_record : StartedByRecord
unfolding trace_writes after_records after_asked record_of kind_record kind_row_in kind_rows hub_asked framing_of data_of is_hub_address
started_by_record = record { sheet = refl; no_address = refl; other_byte = refl; three_bytes = refl }

pub refused_at_records : RefusedAtRecords
unfolding trace_writes after_records after_asked record_of kind_record kind_row_in kind_rows hub_asked framing_of data_of is_hub_address numbered_as burst_writes
refused_at_records = record { hub_again = refl; cut_short = refl; no_hub_address = refl; no_hub_record = refl; empty = refl }
