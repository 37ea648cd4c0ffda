-- `unpacking::groups::put_two` meets its contract: two stores, one after the other.
use mathlib.Core.Path.{◌≡◌}
use mathlib.Core.List.{[], ◌∷◌}
use Prim.Native.Nat.{◌/◌, ◌%◌}
use native.Mathlib.Numerals.{add-one}
use native.Mathlib.Omega.{arith}
use Rattle.laws.proofs.Buffers.{written_sets}
use Rattle.formats.specs.declared.Format.TheVariants.{Raw12}
use Rattle.unpacking.specs.Pixels.{unpack_group}
use Rattle.unpacking.proofs.groups.put_two.Goals as goal

pub returns : goal.returns
unfolding unpack_group
returns c =
    let x = c.args in
    let high : x.low / 16 % 16 ≡ x.low / 16 = omega arith in
    simp (add-one, high) (rw high at (written_sets x.pixels.now x.o (unpack_group Raw12 (x.a ∷ x.b ∷ x.low ∷ [])) c.requires))
