-- `endstate::lines::no_lines` meets its contract.
use mathlib.Core.Path.{refl}
use Rattle.endstate.specs.LineRows.{lines_row}
use Rattle.endstate.proofs.lines.no_lines.Goals as goal

pub returns : goal.returns
unfolding lines_row
returns c = refl
