-- `printing::put_printed_counts` meets its contract: its pieces are put one after the other.
use Rattle.buffers.proofs.PutLaws.{put_then_lem}
use Rattle.printing.specs.PrintedLines.{printed_counts}
use Rattle.printing.proofs.put_printed_counts.Goals as goal

pub returns : goal.returns
unfolding printed_counts
returns c =
    put_then_lem c.put_bytes-first.ensures
    (put_then_lem c.put_decimal-word.ensures (put_then_lem c.put_bytes-second.ensures (put_then_lem c.put_decimal-end.ensures c.put_byte.ensures)))
