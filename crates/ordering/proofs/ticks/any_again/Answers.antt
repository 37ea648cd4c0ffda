-- `ordering::ticks::any_again` meets its contract.
use Rattle.std.proofs.Common.{◌<◌, sym, ◌∙◌, arith}
use Rattle.ordering.proofs.TickLaws.{any_by, again_by_port}
use Rattle.ordering.proofs.ticks.any_again.Goals as goal

pub returns-then-ticks_again : goal.returns-then-ticks_again
returns-then-ticks_again c =
    sym (again_by_port _ _ c.loop-port.port (omega arith) (sym c.ticks_again.ensures ∙ c.if-ticks_again.true))

pub returns : goal.returns
returns c =
    let l = c.loop-port in
    sym (any_by _ _ (λ port (h : port < 4). l.invariant port (omega arith)))
