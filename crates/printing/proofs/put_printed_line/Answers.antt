-- `printing::put_printed_line` meets its contract: its pieces are put one after the other.
use Rattle.buffers.proofs.PutLaws.{put_then_lem}
use Rattle.printing.specs.PrintedLines.{printed_line}
use Rattle.printing.proofs.put_printed_line.Goals as goal

pub returns : goal.returns
unfolding printed_line
returns c = search put_then_lem
