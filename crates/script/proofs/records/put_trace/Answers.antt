-- `script::records::put_trace` meets its contract: the hub record, and after it the records of the calls.
use Rattle.buffers.proofs.PutLaws.{put_then_lem}
use Rattle.script.specs.Traces.{trace_of}
use Rattle.script.proofs.records.put_trace.Goals as goal

pub returns : goal.returns
unfolding trace_of
returns c calls e = put_then_lem c.put_hub-next.ensures (c.put_calls.ensures calls e)
