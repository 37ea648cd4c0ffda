use Rattle.packing.specs.Raw.{group_bytes}
use Rattle.laws.proofs.GroupLoops.{Stored}
use Rattle.unpacking.specs.Pixels.{unpack_group}
use Rattle.unpacking.proofs.groups.unpack_count.Given as goal

abbrev pub invariant-loop-g : goal.invariant-loop-g
invariant-loop-g g l = Stored (group_bytes l.format) (unpack_group l.format) l.payload l.initial.pixels l.count l.g l.pixels
