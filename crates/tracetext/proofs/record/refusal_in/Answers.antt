-- `tracetext::record::refusal_in` meets its contract: a refusal is told by its number.
use Rattle.tracetext.proofs.ListedOne.{told_by}
use Rattle.tracetext.proofs.record.refusal_in.Goals as goal

pub returns-in-Text : goal.returns-in-Text
returns-in-Text c = rw c.in-Text.is (told_by c.in-Text.text)
