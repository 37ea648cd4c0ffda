-- `printing::refusal::put_refusal` meets its contract: its pieces are put one after the other.
use mathlib.Core.List.{append-nil}
use Rattle.buffers.proofs.PutLaws.{put_then_lem}
use Rattle.printing.specs.PrintedLines.{reply_text}
use Rattle.printing.proofs.refusal.put_refusal.Goals as goal

pub returns : goal.returns
unfolding reply_text
returns g c = rw append-nil (rw c.number.ensures at (put_then_lem c.put_bytes-next.ensures c.put_decimal.ensures))
