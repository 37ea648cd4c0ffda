-- `printing::question::put_read_question` meets its contract, by the cases of the answer.
use mathlib.Core.List.{append_assoc}
use Rattle.buffers.proofs.PutLaws.{put_then_lem}
use Rattle.printing.specs.PrintedLines.{answer_text, reply_text}
use Rattle.printing.proofs.question.put_read_question.Goals as goal

pub returns-in-Ok-Hub : goal.returns-in-Ok-Hub
unfolding reply_text answer_text
returns-in-Ok-Hub c = rw (c.in-Ok-Hub.is, rw c.in-Ok-Hub.is at c.in-Ok-Hub.field-0-is) c.put_question.ensures

pub returns-in-Ok-NoDevice : goal.returns-in-Ok-NoDevice
unfolding reply_text answer_text
returns-in-Ok-NoDevice c = rw (c.in-Ok-NoDevice.is, rw c.in-Ok-NoDevice.is at c.in-Ok-NoDevice.field-0-is) c.put_question-in-Ok-NoDevice.ensures

pub returns-in-Ok-Found : goal.returns-in-Ok-Found
unfolding reply_text answer_text
returns-in-Ok-Found c = rw (c.in-Ok-Found.is, rw c.in-Ok-Found.is at c.in-Ok-Found.field-0-is) (simp append_assoc at (put_then_lem c.put_question-next.ensures c.put_device.ensures))
