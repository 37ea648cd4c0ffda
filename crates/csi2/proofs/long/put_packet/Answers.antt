-- `csi2::long::put_packet` meets its contract: the header, the payload and the checksum, one after the other.
use mathlib.Core.Path.{sym, ◌∙◌}
use Rattle.packing.proofs.RawLaws.{length_payload, payload_packed}
use Rattle.csi2.proofs.WriterLaws.{packet_parts}
use native.Mathlib.Omega.{arith}
use Rattle.csi2.proofs.long.put_packet.Goals as goal

pub returns : goal.returns
returns c =
    let x = c.args in
    let packed = payload_packed x.format x.pixels.now c.put_header.new.part 4 (omega (arith, c.requires.1, c.put_header.auto.part)) c.pack_groups.ensures in
    packet_parts _ _ _ _ _ _ _ (length_payload _ _ ∙ sym c.payload_length-count.ensures) (omega (arith, c.requires.1, c.payload_length-count.ensures))
    c.put_header.ensures packed c.put_checksum.ensures
