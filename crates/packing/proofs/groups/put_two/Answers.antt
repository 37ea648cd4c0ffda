-- `packing::groups::put_two` meets its contract: three stores, one after the other.
use mathlib.Core.Path.{◌≡◌}
use mathlib.Core.List.{[], ◌∷◌}
use Prim.Native.Nat.{◌+◌, ◌*◌, ◌%◌}
use native.Mathlib.Numerals.{add-one, add-two}
use native.Mathlib.Omega.{arith}
use Rattle.laws.proofs.Buffers.{written_sets}
use Rattle.formats.specs.declared.Format.TheVariants.{Raw12}
use Rattle.packing.specs.Raw.{low_byte, pack_group}
use Rattle.packing.proofs.groups.put_two.Goals as goal

pub returns : goal.returns
unfolding pack_group
returns c =
    let x = c.args in
    let low : x.a % 16 + 16 * (x.b % 16) ≡ low_byte Raw12 (x.a ∷ x.b ∷ []) = omega arith in
    simp (low, add-one, add-two) (written_sets x.part.now x.o (pack_group Raw12 (x.a ∷ x.b ∷ [])) c.requires)
