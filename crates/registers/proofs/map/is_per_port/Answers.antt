-- `registers::map::is_per_port` meets its contract.
use mathlib.Core.Bool.{false}
use Rattle.laws.specs.Tables.{tabulate}
use Rattle.laws.proofs.Tables.{length-tabulate, tabulate-at}
use Rattle.std.proofs.lemmas.List.{get_or-map}
use Rattle.registers.specs.RegisterMap.{per_port}
use native.Mathlib.Omega.{arith}
use Rattle.registers.proofs.map.is_per_port.Goals as goal

pub returns : goal.returns
returns c =
    let offset = c.args.offset in
    rw (
      c.per_port_flags-flags.ensures,
      get_or-map per_port (tabulate (λ k. k) 256) offset 0 false (omega (arith, length-tabulate (λ k. k) 256)),
      tabulate-at (λ k. k) 256 offset (omega arith),
    )
