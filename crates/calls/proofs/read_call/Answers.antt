-- `calls::read_call` meets its contract: one token after the other.
use mathlib.Core.Path.{sym}
use Rattle.calls.specs.ScriptLines.{after_token, digits_read, value_read, call_if_ended, call_read}
use Rattle.calls.proofs.read_call.Goals as goal

pub returns-in_err-word : goal.returns-in_err-word
unfolding call_read after_token value_read digits_read call_if_ended
returns-in_err-word c = rw (c.from_residual.ensures, sym c.in_err-word.ensures)

pub returns-in_err-opening : goal.returns-in_err-opening
unfolding call_read after_token value_read digits_read call_if_ended
returns-in_err-opening c = rw (c.from_residual-in_err-opening.ensures, sym c.in_ok-word.ensures, sym c.in_err-opening.ensures)

pub returns-in_err-offset : goal.returns-in_err-offset
unfolding call_read after_token value_read digits_read call_if_ended
returns-in_err-offset c = rw (c.from_residual-in_err-offset.ensures, sym c.in_ok-word.ensures, sym c.in_ok-opening.ensures, sym c.in_err-offset.ensures)

pub returns-in_err-comma : goal.returns-in_err-comma
unfolding call_read after_token value_read digits_read call_if_ended
returns-in_err-comma c = rw (c.from_residual-in_err-comma.ensures, sym c.in_ok-word.ensures, sym c.in_ok-opening.ensures, sym c.in_ok-offset.ensures, sym c.in_err-comma.ensures)

pub returns-in_err-value : goal.returns-in_err-value
unfolding call_read after_token value_read digits_read call_if_ended
returns-in_err-value c = rw (c.from_residual-in_err-value.ensures, sym c.in_ok-word.ensures, sym c.in_ok-opening.ensures, sym c.in_ok-offset.ensures, sym c.in_ok-comma.ensures, sym c.in_err-value.ensures)

pub returns-in_err-closing : goal.returns-in_err-closing
unfolding call_read after_token value_read digits_read call_if_ended
returns-in_err-closing c = rw (c.from_residual-in_err-closing.ensures, sym c.in_ok-word.ensures, sym c.in_ok-opening.ensures, sym c.in_ok-offset.ensures, sym c.in_ok-comma.ensures, sym c.in_ok-value.ensures, sym c.in_err-closing.ensures)

pub returns-then-not-ends : goal.returns-then-not-ends
unfolding call_read after_token value_read digits_read call_if_ended
returns-then-not-ends c = rw (sym c.in_ok-word.ensures, sym c.in_ok-opening.ensures, sym c.in_ok-offset.ensures, sym c.in_ok-comma.ensures, sym c.in_ok-value.ensures, sym c.in_ok-closing.ensures, sym c.ends.ensures, c.if-not-ends.true)

pub returns : goal.returns
unfolding call_read after_token value_read digits_read call_if_ended
returns c = rw (sym c.in_ok-word.ensures, sym c.in_ok-opening.ensures, sym c.in_ok-offset.ensures, sym c.in_ok-comma.ensures, sym c.in_ok-value.ensures, sym c.in_ok-closing.ensures, sym c.ends.ensures, c.if-not-ends.false)
