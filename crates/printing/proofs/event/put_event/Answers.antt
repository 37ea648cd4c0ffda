-- `printing::event::put_event` meets its contract, by the cases of the answer.
use Rattle.buffers.proofs.PutLaws.{put_then_lem}
use Rattle.printing.specs.PrintedLines.{answer_text, reply_text}
use Rattle.printing.proofs.event.put_event.Goals as goal

pub returns-in-Ok-None : goal.returns-in-Ok-None
unfolding reply_text answer_text
returns-in-Ok-None c = rw (c.in-Ok-None.is, rw c.in-Ok-None.is at c.in-Ok-None.field-0-is) (put_then_lem c.put_port-next.ensures c.put_bytes.ensures)

pub returns-in-Ok-Some : goal.returns-in-Ok-Some
unfolding reply_text answer_text
returns-in-Ok-Some c = rw (c.in-Ok-Some.is, rw c.in-Ok-Some.is at c.in-Ok-Some.field-0-is) (put_then_lem c.put_port-next-in-Ok-Some.ensures c.put_output.ensures)
