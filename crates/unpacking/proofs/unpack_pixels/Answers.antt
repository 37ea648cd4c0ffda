-- `unpacking::unpack_pixels` meets its contract: refusal 3, 17, or the pixels by whether they have room.
use mathlib.Core.Path.{◌≡◌, sym, ap, ◌∙◌}
use mathlib.Core.Bool.{Bool, cond}
use Prim.Native.Nat.{◌+◌}
use native.Mathlib.Omega.{arith}
use borrow.Author.Tests.{le-leb, lt-leb}
use lib.ListN.{length}
use Rattle.std.proofs.Common.{rules}
use Rattle.std.specs.Prelude.{Option, None, Some, Err}
use Rattle.laws.specs.Reply.{refused}
use Rattle.laws.specs.Buffers.{if_room}
use Rattle.laws.proofs.Buffers.{refusal, refused_by, writing}
use Rattle.formats.specs.declared.Format.{Format}
use Rattle.formats.specs.Formats.{format_of, format_reply}
use Rattle.laws.proofs.Replies.{room_by}
use Rattle.unpacking.specs.declared.UnpackRefusal.TheVariants.{UnknownFormat}
use Rattle.unpacking.specs.Pixels.{pixels_of}
use Rattle.unpacking.specs.Unpacking.{unpack_reply, unpack_refusal_number}
use Rattle.unpacking.proofs.PixelLaws.{length_pixels}
use Rattle.unpacking.proofs.AnswerLaws.{unpack_unknown, unpack_by}
use Rattle.unpacking.proofs.unpack_pixels.Goals as goal
use Rattle.unpacking.proofs.unpack_pixels.Goals.{After-from_bits, After-payload_allowed, After-width_of-width}

-- the format, by what the number of bits was answered
answered : (f : After-from_bits) {answer : Option Format} → f.from_bits.result ≡ answer
    → format_of f.args.bits ≡ format_reply answer
answered f e = sym f.from_bits.ensures ∙ ap format_reply e

-- the answer, by whether the payload is allowed
known : (a : After-payload_allowed) {right : Bool} → a.payload_allowed.result ≡ right → let x = a.args in
    unpack_reply x.bits x.payload.now (length x.pixels.now)
    ≡ cond right (if_room (length x.pixels.now) 0 (pixels_of a.in_ok-format.format x.payload.now)) (refused 17)
known a e =
    let known : a.from_bits.result ≡ Some a.in_ok-format.format = search rules in
    unpack_by _ _ _ _ (sym a.from_bits.ensures ∙ ap format_reply known) (sym a.payload_allowed.ensures ∙ e)

count : (w : After-width_of-width) → length (pixels_of w.in_ok-format.format w.args.payload.now) ≡ w.width_of-width.result
count w = length_pixels _ _ ∙ sym w.width_of-width.ensures

pub returns-in_err-format : goal.returns-in_err-format
returns-in_err-format c =
    let unknown : c.from_bits.result ≡ None = search rules in
    let told : c.from_residual.result ≡ Err UnknownFormat = search rules in
    refused_by _ 0 unpack_refusal_number told (unpack_unknown _ _ _ (answered ((goal.at.returns-in_err-format c).After-from_bits) unknown))

pub returns-then-not-payload_allowed : goal.returns-then-not-payload_allowed
returns-then-not-payload_allowed c = refusal _ 0 17 (known ((goal.at.returns-then-not-payload_allowed c).After-payload_allowed) c.if-not-payload_allowed.true)

pub returns-then-pixels-width : goal.returns-then-pixels-width
returns-then-pixels-width c =
    let at = goal.at.returns-then-pixels-width c in
    refusal _ 0 8 (known (at.After-payload_allowed) c.if-not-payload_allowed.false ∙ room_by _ 0 _ _ (count (at.After-width_of-width)) (lt-leb (0 + c.width_of-width.result) _ (omega arith)))

pub returns : goal.returns
returns c =
    let at = goal.at.returns c in
    writing _ 0 _ _ (known (at.After-payload_allowed) c.if-not-payload_allowed.false ∙ room_by _ 0 _ _ (count (at.After-width_of-width)) (le-leb (0 + c.width_of-width.result) _ (omega arith)))
    (sym (count (at.After-width_of-width))) c.unpack.ensures
