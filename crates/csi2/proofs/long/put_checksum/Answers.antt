-- `csi2::long::put_checksum` meets its contract: the part after the payload is lent, and is back.
use mathlib.Core.Path.{◌≡◌, ap, ◌∙◌}
use Prim.Native.Nat.{ℕ, ◌+◌, ◌-◌}
use lib.ListN.{take, drop}
use Rattle.laws.specs.Buffers.{written}
use Rattle.laws.proofs.Buffers.{lent_written}
use Rattle.crc.specs.Checksum.{crc_of}
use Rattle.csi2.specs.Packets.{little_endian}
use native.Mathlib.Omega.{arith}
use Rattle.csi2.proofs.long.put_checksum.Goals as goal

pub returns : goal.returns
returns c =
    let x = c.args in
    let d = x.part.now in
    let k : 4 + x.count - 4 ≡ x.count = omega arith in
    lent_written d _ (little_endian c.checksum-sum.result) (4 + x.count) (omega (arith, c.requires)) c.put_little_endian.ensures
    ∙ ap (λ (sum : ℕ). written d (4 + x.count) (little_endian sum)) (c.checksum-sum.ensures ∙ ap (λ (n : ℕ). crc_of (take n (drop 4 d))) k)
