-- `buffers::put_byte` meets its contract: one byte, or none where the buffer is full.
use Rattle.buffers.proofs.PutLaws.{put_one, put_none}
use Rattle.buffers.proofs.put_byte.Goals as goal

pub returns-then-at-out : goal.returns-then-at-out
returns-then-at-out c = let x = c.args in put_one x.out.now x.at x.byte c.if-at-out.true

pub returns : goal.returns
returns c = let x = c.args in put_none x.out.now x.at _ c.if-at-out.false
