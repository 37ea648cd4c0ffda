-- `crc::feed_rest` meets its contract.
use mathlib.Core.Path.{refl, ap, ◌∙◌}
use Prim.Native.Nat.{ℕ, ◌-◌, ◌*◌, ◌/◌, ◌^◌}
use native.Mathlib.Omega.{arith}
use lib.Bits.{bit_xor}
use lib.ListN.{length}
use lib.Seq.{take_all}
use Rattle.crc.specs.Checksum.{crc_from}
use Rattle.crc.proofs.Words.{part_fed}
use Rattle.crc.proofs.feed_rest.Goals as goal

pub returns-then-n-eq0 : goal.returns-then-n-eq0
unfolding crc_from
returns-then-n-eq0 c = let s = c.args.bytes.now in ap (crc_from _) (take_all 0 s (omega arith))

pub returns : goal.returns
returns c =
    let a = c.args in
    let n = length a.bytes.now in
    ap (λ (t : ℕ). bit_xor t (a.crc / 2 ^ (8 * n))) c.shifted.ensures
    ∙ part_fed a.bytes.now (64 - 8 * n) n a.crc _ (omega arith) refl c.word.ensures
