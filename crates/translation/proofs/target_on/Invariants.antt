-- `translation::target_on` meets its contract. The loop's invariant: the search from target k on finds what the whole
-- search does.
use mathlib.Core.Path.{◌≡◌}
use Prim.Native.Nat.{◌-◌}
use Rattle.translation.specs.Translation.{target_from}
use Rattle.translation.proofs.target_on.Given as goal

abbrev pub invariant-loop-k : goal.invariant-loop-k
invariant-loop-k l = target_from l.pages l.port l.address l.k (8 - l.k) ≡ target_from l.pages l.port l.address 0 8
