-- `printing::put_answer` meets its contract, by the cases of the answer.
use Rattle.printing.specs.PrintedLines.{answer_text, reply_text}
use Rattle.printing.proofs.put_answer.Goals as goal

pub returns-in-Write : goal.returns-in-Write
unfolding reply_text answer_text
returns-in-Write c = rw c.in-Write.is c.put_write.ensures

pub returns-in-Read : goal.returns-in-Read
unfolding reply_text answer_text
returns-in-Read c = rw c.in-Read.is c.put_read.ensures
