-- `csi2::long::write_pixel_line` meets its contract: a refusal of the test, or the answer of the packet writer.
use mathlib.Core.Path.{◌≡◌, sym, ◌∙◌}
use lib.ListN.{length}
use Rattle.std.proofs.Common.{rules}
use Rattle.std.specs.Prelude.{Result, Err}
use Rattle.laws.proofs.Buffers.{refused_by, answered_so}
use Rattle.packing.specs.declared.check.PixelRefusal.{PixelRefusal}
use Rattle.packing.specs.Packing.{after_check}
use Rattle.packing.proofs.CheckLaws.{checked, good_width}
use Rattle.packing.specs.Raw.{payload_of}
use Rattle.csi2.specs.declared.long.LongRefusal.TheVariants.{Pixels}
use Rattle.csi2.specs.Writers.{packet_reply, pixel_line_reply, long_refusal_number}
use Rattle.csi2.proofs.WriterLaws.{long_good}
use Rattle.csi2.proofs.long.write_pixel_line.Goals as goal
use Rattle.csi2.proofs.long.write_pixel_line.Goals.{After-check_pixels}

-- the answer, by what the test has found
answered : (k : After-check_pixels) {check : Result Unit PixelRefusal} → k.check_pixels.result ≡ check → let x = k.args in
    pixel_line_reply x.format x.pixels.now x.identifier (length x.buf.now) x.place
    ≡ after_check check (packet_reply x.identifier (payload_of x.format x.pixels.now) (length x.buf.now) x.place)
unfolding pixel_line_reply
answered k e = checked _ _ _ (sym k.check_pixels.ensures ∙ e)

pub returns-in_err-check_pixels : goal.returns-in_err-check_pixels
returns-in_err-check_pixels c =
    let told : c.from_residual.result ≡ Err (Pixels c.in_err-check_pixels.field-0.0) = search rules in
    refused_by _ _ long_refusal_number told (answered ((goal.at.returns-in_err-check_pixels c).After-check_pixels) c.in_err-check_pixels.was)

pub returns : goal.returns
returns c =
    let width = good_width _ _ (sym c.check_pixels.ensures ∙ c.in_ok-check_pixels.was) in
    answered_so _ _ (answered ((goal.at.returns c).After-check_pixels) c.in_ok-check_pixels.was ∙ sym (long_good _ _ _ _ _ width)) c.write_long_packet.ensures
