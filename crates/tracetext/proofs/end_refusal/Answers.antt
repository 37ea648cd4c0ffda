-- `tracetext::end_refusal` meets its contract.
use Rattle.std.proofs.Common.{sym, ◌∙◌, eq-eqb, ne_eqb}
use Rattle.tracetext.specs.TextFiles.{end_refusal}
use Rattle.tracetext.proofs.end_refusal.Goals as goal

pub returns-then-is_some : goal.returns-then-is_some
unfolding end_refusal
returns-then-is_some c = rw (sym c.is_some.ensures ∙ c.if-is_some.true)

pub returns-then-run-eq0 : goal.returns-then-run-eq0
unfolding end_refusal
returns-then-run-eq0 c = rw (sym c.is_some.ensures ∙ c.if-is_some.false, eq-eqb _ 0 c.if-run-eq0.true)

pub returns : goal.returns
unfolding end_refusal
returns c = rw (sym c.is_some.ensures ∙ c.if-is_some.false, ne_eqb _ 0 c.if-run-eq0.false)
