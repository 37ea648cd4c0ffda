-- `registers::map::reset_values::reset_values` meets its contract: the whole table is computed and compared.
use mathlib.Core.Path.{refl}
use Rattle.laws.specs.Tables.{tabulate, tabulate_from}
use Rattle.registers.specs.RegisterMap.{rows, row_in, reset_of}
use Rattle.registers.proofs.map.reset_values.reset_values.Goals as goal

pub returns : goal.returns
unfolding tabulate tabulate_from reset_of row_in rows
returns c = refl
