-- `script::records::put_write` meets its contract: the bytes are those of the call's record.
use Rattle.script.specs.Traces.{write_records}
use Rattle.script.proofs.records.put_write.Goals as goal

pub returns : goal.returns
unfolding write_records
returns c = c.put_bytes.ensures
