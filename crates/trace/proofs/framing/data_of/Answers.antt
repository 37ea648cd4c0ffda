-- `trace::framing::data_of` meets its contract: the bytes counted, or those that are there.
use mathlib.Core.Path.{◌≡◌, sym, ◌∙◌}
use native.Mathlib.Omega.{arith}
use lib.ListN.{take}
use lib.Seq.{take_all}
use Rattle.trace.specs.Framing.{data_of}
use Rattle.trace.proofs.framing.data_of.Goals as goal
use Rattle.trace.proofs.framing.data_of.Goals.{After-bytes_from-rest}

-- the data by what was found
found : (c : After-bytes_from-rest)
    → take c.framing_of-frame.result.count c.bytes_from-rest.result.now ≡ data_of c.args.bytes.now
unfolding data_of
found c = let frame = c.framing_of-frame.ensures in rw (c.bytes_from-rest.ensures, frame.start, frame.count)

pub returns-then-count-rest : goal.returns-then-count-rest
returns-then-count-rest c = found ((goal.at.returns-then-count-rest c).After-bytes_from-rest)

pub returns : goal.returns
returns c = sym (take_all c.framing_of-frame.result.count c.bytes_from-rest.result.now (omega arith)) ∙ found ((goal.at.returns c).After-bytes_from-rest)
