-- `unpacking::groups::unpack_count` meets its contract. The loop's invariant: the slice holds the pixels of the first g groups.
use native.Mathlib.Omega.{arith}
use Rattle.laws.proofs.GroupLoops.{stored_none, stored_more}
use Rattle.unpacking.proofs.PixelLaws.{length_group}
use Rattle.unpacking.proofs.groups.unpack_count.Goals as goal

pub loop-g-init : goal.loop-g-init
loop-g-init g c = stored_none _ _ _ _ _

pub loop-g-preserved : goal.loop-g-preserved
loop-g-preserved g c =
    let whole = rw c.requires.sizes.0 at c.requires.room.0 in
    let room = rw c.requires.sizes.1 at c.requires.room.1 in
    let put = rw (c.requires.sizes.0, c.requires.sizes.1) at c.put_group.ensures in
    stored_more (length_group c.args.format) whole room (omega arith) c.loop-g.invariant c.put_group.auto.pixels put
