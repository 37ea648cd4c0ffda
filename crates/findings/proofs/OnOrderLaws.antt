-- The laws of specs/OnOrder.antt: the order and the extent are those of `ordering`.
-- Assumes nothing.
use Rattle.std.proofs.Common.{◌∷◌, ◌++◌}
use Rattle.ordering.proofs.BreakingWriteLaws.{port_twice_exact}
use Rattle.ordering.proofs.InsideLaws.{shared_in_block_exact}
use Rattle.findings.specs.OnOrder.{PortTwiceFound, SharedInBlockFound}
use Rattle.findings.proofs.SoFarLaws.{order_kept, extent_kept}

pub port_twice_found : PortTwiceFound
port_twice_found start before w port h = rw (order_kept start before) (port_twice_exact port h before w)

pub shared_in_block_found : SharedInBlockFound
shared_in_block_found start before w after few =
    rw (extent_kept start before, extent_kept start (before ++ (w ∷ after)))
    (shared_in_block_exact before w after few)
