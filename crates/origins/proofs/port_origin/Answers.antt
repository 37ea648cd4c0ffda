-- `origins::port_origin` meets its contract: above port 3 there is no register.
use Rattle.std.proofs.Common.{get_or, arith, lt-ltb}
use Rattle.origins.specs.KeptOrigins.{past_last, kept_number}
use Rattle.origins.proofs.KeptOrigins.{there_is}
use Rattle.origins.proofs.port_origin.Goals as goal

pub returns-then-port-gt3 : goal.returns-then-port-gt3
unfolding kept_number
returns-then-port-gt3 c = rw (lt-ltb 3 c.args.port c.if-port-gt3.true)

pub returns : goal.returns
unfolding kept_number
returns c = rw (there_is (get_or c.args.state.origins c.args.offset past_last) c.args.port (omega arith))
