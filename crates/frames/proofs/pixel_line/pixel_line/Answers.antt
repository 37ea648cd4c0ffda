-- `frames::pixel_line::pixel_line` meets its contract: the port, its last frame and the pixels are tested first; then a
-- dropped line, or the answer of the packet writer, by the port's route.
use mathlib.Core.Path.{sym, ◌∙◌}
use Rattle.std.proofs.lemmas.Result.{err_from_is_err_and}
use borrow.Author.Tests.{le-ltb}
use Rattle.laws.proofs.Absurd.{zero_not_one}
use Rattle.hub.proofs.Routes.{route_given}
use Rattle.packing.proofs.CheckLaws.{good_width}
use Rattle.csi2.proofs.WriterLaws.{long_good}
use Rattle.frames.specs.Events.{if_open, event_reply}
use Rattle.frames.proofs.EventLaws.{forward_by, event_dropped, event_sent}
use Rattle.frames.proofs.pixel_line.pixel_line.Goals as goal

pub returns-in_err-output : goal.returns-in_err-output
returns-in_err-output c =
    let told = c.in_err-output.ensures ∙ route_given _ _ c.if-port-gt3.false in
    zero_not_one (cc)

pub returns-in_default-2 : goal.returns-in_default-2
unfolding event_reply if_open
returns-in_default-2 c =
    rw (
      le-ltb 3 _ c.if-port-gt3.false,
      ← c.port_frames-frames.ensures,
      c.in-Open.is,
      ← c.in_ok-check_pixels.ensures,
      forward_by _ _ c.if-port-gt3.false (rw c.in_default-2.is at c.in_ok-output.ensures),
    )
    event_dropped

pub returns-in_err-bytes : goal.returns-in_err-bytes
unfolding event_reply if_open
returns-in_err-bytes c =
    let told = err_from_is_err_and c.from_residual-in_err-bytes.result c.from_residual-in_err-bytes.ensures.1 in
    let width = good_width _ _ (sym c.in_ok-check_pixels.ensures) in
    rw (
      told.1,
      told.2,
      le-ltb 3 _ c.if-port-gt3.false,
      ← c.port_frames-frames.ensures,
      c.in-Open.is,
      ← c.in_ok-check_pixels.ensures,
      forward_by _ _ c.if-port-gt3.false (rw c.in-Some.is at c.in_ok-output.ensures),
    )
    (event_sent c.in-Some.output.csi (rw (c.data_identifier-identifier.ensures, long_good _ _ _ _ _ width) at c.in_err-bytes.ensures))

pub returns : goal.returns
unfolding event_reply if_open
returns c =
    let width = good_width _ _ (sym c.in_ok-check_pixels.ensures) in
    rw (
      le-ltb 3 _ c.if-port-gt3.false,
      ← c.port_frames-frames.ensures,
      c.in-Open.is,
      ← c.in_ok-check_pixels.ensures,
      forward_by _ _ c.if-port-gt3.false (rw c.in-Some.is at c.in_ok-output.ensures),
    )
    (event_sent c.in-Some.output.csi (rw (c.data_identifier-identifier.ensures, long_good _ _ _ _ _ width) at c.in_ok-bytes.ensures))
