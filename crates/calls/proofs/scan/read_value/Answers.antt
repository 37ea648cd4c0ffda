-- `calls::scan::read_value` meets its contract, by whether 0x stands there.
use mathlib.Core.Path.{sym}
use Rattle.calls.specs.ScriptLines.{digits_read, value_read}
use Rattle.calls.proofs.scan.read_value.Goals as goal

pub returns-in_err-expect : goal.returns-in_err-expect
unfolding value_read digits_read
returns-in_err-expect c = rw (c.from_residual.ensures, sym c.in_err-expect.ensures)

pub returns : goal.returns
unfolding value_read
returns c = rw (sym c.in_ok-expect.ensures) c.read_digits.ensures
