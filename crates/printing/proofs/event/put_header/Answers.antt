-- `printing::event::put_header` meets its contract: its bytes are put one after the other.
use mathlib.Core.List.{append-nil}
use Rattle.buffers.proofs.PutLaws.{put_then_lem}
use Rattle.printing.proofs.event.put_header.Goals as goal

pub returns : goal.returns
returns c = rw append-nil (search put_then_lem)
