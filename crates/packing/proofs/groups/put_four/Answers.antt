-- `packing::groups::put_four` meets its contract: five stores, one after the other.
use mathlib.Core.Path.{◌≡◌}
use mathlib.Core.List.{[], ◌∷◌}
use Prim.Native.Nat.{◌+◌, ◌*◌, ◌%◌}
use native.Mathlib.Numerals.{add-one, add-two, add-three, add-four}
use native.Mathlib.Omega.{arith}
use Rattle.laws.proofs.Buffers.{written_sets}
use Rattle.formats.specs.declared.Format.TheVariants.{Raw10}
use Rattle.packing.specs.Raw.{low_byte, pack_group}
use Rattle.packing.proofs.groups.put_four.Goals as goal

pub returns : goal.returns
unfolding pack_group
returns c =
    let x = c.args in
    let low : x.a % 4 + 4 * (x.b % 4) + 16 * (x.c % 4) + 64 * (x.d % 4) ≡ low_byte Raw10 (x.a ∷ x.b ∷ x.c ∷ x.d ∷ []) = omega arith in
    simp (low, add-one, add-two, add-three, add-four) (written_sets x.part.now x.o (pack_group Raw10 (x.a ∷ x.b ∷ x.c ∷ x.d ∷ [])) c.requires)
