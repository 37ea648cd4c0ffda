-- `reader::payload` meets its contract: as many of the bytes after the header as the reader's answer says.
use mathlib.Core.Path.{◌≡◌, sym, ap, ◌∙◌}
use native.Mathlib.Omega.{arith}
use lib.ListN.{length, length-drop}
use lib.Seq.{length-take-le}
use Rattle.reader.specs.Reader.{read_packet, payload_count}
use Rattle.reader.proofs.ReaderLaws.{payload_inside}
use Rattle.reader.proofs.payload.Goals as goal
use Rattle.reader.proofs.payload.Goals.{After-payload_count-count}

counted : (p : After-payload_count-count) → p.payload_count-count.result ≡ payload_count (read_packet p.args.bytes.now)
counted p = p.payload_count-count.ensures ∙ ap payload_count p.read_packet.ensures

pub slice_bounds-result-end : goal.slice_bounds-result-end
slice_bounds-result-end c =
    let bytes = c.args.bytes.now in
    sym (length-take-le _ _ (omega (arith, counted ((goal.at.slice_bounds-result-end c).After-payload_count-count), payload_inside bytes, length-drop 4 bytes, ap length c.bytes_from-body.ensures)))
