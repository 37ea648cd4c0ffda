-- `registers::map::write_masks::write_masks` meets its contract: the whole table is computed and compared.
use mathlib.Core.Path.{refl}
use Rattle.laws.specs.Tables.{tabulate, tabulate_from}
use Rattle.registers.specs.RegisterMap.{rows, row_in, mask_of}
use Rattle.registers.proofs.map.write_masks.write_masks.Goals as goal

pub returns : goal.returns
unfolding tabulate tabulate_from mask_of row_in rows
returns c = refl
