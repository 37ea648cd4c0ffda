-- `printing::question::put_device` meets its contract: its pieces are put one after the other.
use Rattle.buffers.proofs.PutLaws.{put_then_lem}
use Rattle.printing.specs.PrintedLines.{device_text}
use Rattle.printing.proofs.question.put_device.Goals as goal

pub returns : goal.returns
unfolding device_text
returns c = search put_then_lem
