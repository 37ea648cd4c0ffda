-- `ordering::ticks::last_tick` meets its contract: past the fourth port there is no tick.
use Rattle.std.proofs.Common.{◌≡◌, length, sym, refl, rules}
use Rattle.ordering.specs.Ticks.{last_tick}
use Rattle.ordering.proofs.TickLaws.{no_port_lem}
use Rattle.ordering.proofs.ticks.last_tick.Goals as goal

pub returns-then-port-gt3 : goal.returns-then-port-gt3
returns-then-port-gt3 c =
    let a = c.args in
    let count : length a.ticks.ports ≡ 4 = search rules in
    sym (no_port_lem a.ticks a.port count c.if-port-gt3.true)

pub returns : goal.returns
unfolding last_tick
returns c = refl
