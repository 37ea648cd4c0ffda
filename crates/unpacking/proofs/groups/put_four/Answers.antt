-- `unpacking::groups::put_four` meets its contract: four stores of a word, one after the other.
use mathlib.Core.Path.{◌≡◌, sym}
use mathlib.Core.List.{[], ◌∷◌}
use Prim.Native.Nat.{◌+◌, ◌*◌}
use native.Mathlib.Numerals.{add-one, add-two, add-three}
use native.Mathlib.Omega.{arith}
use Rattle.laws.proofs.Buffers.{written_sets}
use Rattle.formats.specs.declared.Format.TheVariants.{Raw10}
use Rattle.unpacking.specs.Pixels.{unpack_group}
use Rattle.unpacking.specs.Words.{word}
use Rattle.unpacking.proofs.WordLaws.{numbers_in, gathered}
use Rattle.unpacking.proofs.groups.put_four.Goals as goal

pub returns : goal.returns
returns c =
    let x = c.args in
    let word = 4 * word x.a x.b x.c x.d + c.spread_pairs.result in
    let pixels : numbers_in word ≡ unpack_group Raw10 (x.a ∷ x.b ∷ x.c ∷ x.d ∷ x.low ∷ []) =
    rw c.spread_pairs.ensures.0 (gathered x.a x.b x.c x.d x.low (omega arith) (omega arith) (omega arith) (omega arith) (omega arith)) in
    rw (sym pixels) (simp (add-one, add-two, add-three) (written_sets x.pixels.now x.o (numbers_in word) c.requires))
