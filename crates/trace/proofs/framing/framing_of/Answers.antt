-- `trace::framing::framing_of` meets its contract: a length byte is below 256.
use mathlib.Core.Path.{refl}
use native.Mathlib.Omega.{arith}
use Rattle.trace.specs.Framing.{framing_of}
use Rattle.trace.proofs.framing.framing_of.Goals as goal

pub returns : goal.returns
unfolding framing_of
returns c = record { start = refl; count = c.byte_at.ensures; small = omega arith }
