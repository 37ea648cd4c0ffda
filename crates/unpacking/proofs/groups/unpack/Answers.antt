-- `unpacking::groups::unpack` meets its contract: all groups, for each format.
use Rattle.unpacking.specs.Pixels.{pixels_of}
use Rattle.unpacking.proofs.groups.unpack.Goals as goal

pub returns-in-Raw10 : goal.returns-in-Raw10
unfolding pixels_of
returns-in-Raw10 c = rw c.in-Raw10.is (rw c.in-Raw10.is at c.unpack_count.ensures)

pub returns-in-Raw12 : goal.returns-in-Raw12
unfolding pixels_of
returns-in-Raw12 c = rw c.in-Raw12.is (rw c.in-Raw12.is at c.unpack_count-in-Raw12.ensures)
