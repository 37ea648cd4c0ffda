-- `csi2::long::put_packet_at` meets its contract: the part from the place on is lent, and is back.
use mathlib.Core.Path.{refl}
use Rattle.laws.proofs.Buffers.{lent_written}
use Rattle.csi2.proofs.WriterLaws.{packet_count}
use native.Mathlib.Omega.{arith}
use Rattle.csi2.proofs.long.put_packet_at.Goals as goal

pub returns : goal.returns
returns c =
    let x = c.args in
    let count = packet_count x.format x.pixels.now x.identifier _ refl in
    lent_written _ _ _ x.place (omega (arith, c.requires.1)) c.put_packet.ensures
