-- `ecc::column_table` meets its contract: the whole table is computed from the definition and compared.
use mathlib.Core.Path.{refl}
use Rattle.laws.specs.Tables.{tabulate, tabulate_from}
use Rattle.ecc.specs.CheckBytes.{ones_among, check_byte}
use Rattle.ecc.specs.Columns.{data_column}
use Rattle.ecc.proofs.column_table.Goals as goal

pub returns : goal.returns
unfolding tabulate tabulate_from data_column check_byte ones_among
returns c = refl
