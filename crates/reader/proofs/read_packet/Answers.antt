-- `reader::read_packet` meets its contract, by the cases of the definition.
use mathlib.Core.Path.{◌≡◌, sym, ap, ◌∙◌}
use native.Mathlib.Omega.{arith}
use lib.ListN.{drop}
use Rattle.std.proofs.Common.{rules}
use Rattle.std.specs.Prelude.{Result, Err}
use Rattle.laws.specs.Reply.{reply_by, and_then}
use Rattle.ecc.specs.declared.ReadHeader.{ReadHeader}
use Rattle.ecc.specs.declared.Uncorrectable.{Uncorrectable}
use Rattle.ecc.specs.HeaderCorrection.{correction_of, uncorrectable_number}
use Rattle.reader.specs.declared.PacketRefusal.TheVariants.{HeaderUncorrectable}
use Rattle.reader.specs.Reader.{header_packet, read_body, read_packet, packet_refusal_number}
use Rattle.reader.proofs.ReaderLaws.{bytes_cut, header_read}
use Rattle.reader.proofs.read_packet.Goals as goal
use Rattle.reader.proofs.read_packet.Goals.{After-correct_header}

-- the answer, by what the header is read as
answered : (r : After-correct_header) {read : Result ReadHeader Uncorrectable} → r.correct_header.result ≡ read
    → let bytes = r.args.bytes.now in
    read_packet bytes ≡ and_then (reply_by uncorrectable_number read) (λ read. read_body (drop 4 bytes) (header_packet read))
answered r e = header_read _ (omega arith) (ap correction_of (sym r.four_bytes-header.ensures) ∙ sym r.correct_header.ensures ∙ ap (reply_by uncorrectable_number) e)

pub returns-then-bytes-lt4 : goal.returns-then-bytes-lt4
returns-then-bytes-lt4 c = sym (bytes_cut _ c.if-bytes-lt4.true)

pub returns-in_err-read : goal.returns-in_err-read
returns-in_err-read c =
    let told : c.from_residual.result ≡ Err HeaderUncorrectable = search rules in
    ap (reply_by packet_refusal_number) told ∙ sym (answered ((goal.at.returns-in_err-read c).After-correct_header) c.in_err-read.was)

pub returns : goal.returns
returns c = c.read_body.ensures ∙ rw c.bytes_from.ensures (sym (answered ((goal.at.returns c).After-correct_header) c.in_ok-read.was))
