use Rattle.packing.specs.Raw.{group_pixels, pack_group}
use Rattle.laws.proofs.GroupLoops.{Stored}
use Rattle.packing.proofs.groups.pack_count.Given as goal

abbrev pub invariant-loop-g : goal.invariant-loop-g
invariant-loop-g g l = Stored (group_pixels l.format) (pack_group l.format) l.pixels l.initial.part l.count l.g l.part
