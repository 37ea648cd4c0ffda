-- `registers::map::per_port::per_port_flags` meets its contract: the whole table is computed and compared.
use mathlib.Core.Path.{refl}
use Rattle.laws.specs.Tables.{tabulate, tabulate_from}
use Rattle.registers.specs.RegisterMap.{rows, row_in, per_port}
use Rattle.registers.proofs.map.per_port.per_port_flags.Goals as goal

pub returns : goal.returns
unfolding tabulate tabulate_from per_port row_in rows
returns c = refl
