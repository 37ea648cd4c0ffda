-- `printing::register::put_hub` meets its contract, by the cases of the answer.
use Rattle.buffers.proofs.PutLaws.{put_then_lem}
use Rattle.printing.specs.PrintedLines.{answer_text, reply_text}
use Rattle.printing.proofs.register.put_hub.Goals as goal

pub returns-in-Ok : goal.returns-in-Ok
unfolding reply_text answer_text
returns-in-Ok c = rw c.in-Ok.is (put_then_lem c.put_bytes-next.ensures c.put_hex.ensures)
