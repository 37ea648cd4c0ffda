-- `packing::pack_pixels` meets its contract: a refusal of the test, or the payload by whether it has room.
use mathlib.Core.Path.{◌≡◌, sym, ◌∙◌}
use Prim.Native.Nat.{◌+◌, ◌≤◌}
use native.Mathlib.Omega.{arith}
use borrow.Author.Tests.{leb-true}
use lib.ListN.{length}
use Rattle.std.proofs.Common.{rules}
use Rattle.std.specs.Prelude.{Result, Err}
use Rattle.laws.specs.Buffers.{if_room}
use Rattle.laws.proofs.Buffers.{refusal, refused_by, writing}
use Rattle.packing.specs.declared.check.PixelRefusal.{PixelRefusal}
use Rattle.packing.specs.Raw.{payload_of}
use Rattle.packing.specs.declared.PackRefusal.TheVariants.{Pixels}
use Rattle.packing.specs.Packing.{after_check, pack_reply, pack_refusal_number}
use Rattle.packing.proofs.RawLaws.{length_payload, payload_packed}
use Rattle.packing.proofs.CheckLaws.{allowed_small, checked, good_width}
use Rattle.laws.proofs.Replies.{room_by}
use Rattle.packing.proofs.pack_pixels.Goals as goal
use Rattle.packing.proofs.pack_pixels.Goals.{After-check_pixels, After-payload_length-needed}

-- the answer, by what the test has found, and after it by whether there is room
answered : (k : After-check_pixels) {check : Result Unit PixelRefusal} → k.check_pixels.result ≡ check → let x = k.args in
    pack_reply x.format x.pixels.now (length x.buf.now) x.place
    ≡ after_check check (if_room (length x.buf.now) x.place (payload_of x.format x.pixels.now))
unfolding pack_reply
answered k e = checked _ _ _ (sym k.check_pixels.ensures ∙ e)

count : (n : After-payload_length-needed) → let x = n.args in
    length (payload_of x.format x.pixels.now) ≡ n.payload_length-needed.result
count n = length_payload _ _ ∙ sym n.payload_length-needed.ensures

pub returns-in_err-check_pixels : goal.returns-in_err-check_pixels
returns-in_err-check_pixels c =
    let refusal = c.in_err-check_pixels.field-0.0 in
    let told : c.from_residual.result ≡ Err (Pixels refusal) = search rules in
    refused_by _ _ pack_refusal_number told (answered ((goal.at.returns-in_err-check_pixels c).After-check_pixels) c.in_err-check_pixels.was)

pub overflow_cast-pixels : goal.overflow_cast-pixels
overflow_cast-pixels c =
    let h = allowed_small _ _ (good_width _ _ (sym c.check_pixels.ensures ∙ c.in_ok-check_pixels.was)) in
    omega arith

pub returns-then-not-has_room : goal.returns-then-not-has_room
returns-then-not-has_room c = let at = goal.at.returns-then-not-has_room c in
    refusal _ _ 8 (answered (at.After-check_pixels) c.in_ok-check_pixels.was ∙ room_by _ _ _ _ (count (at.After-payload_length-needed)) (sym c.has_room.ensures ∙ c.if-not-has_room.true))

pub returns : goal.returns
returns c =
    let x = c.args in
    let at = goal.at.returns c in
    let room = sym c.has_room.ensures ∙ c.if-not-has_room.false in
    let fits : x.place + c.payload_length-needed.result ≤ length x.buf.now = leb-true _ _ room in
    writing _ _ _ _ (answered (at.After-check_pixels) c.in_ok-check_pixels.was ∙ room_by _ _ _ _ (count (at.After-payload_length-needed)) room)
    (sym (count (at.After-payload_length-needed)))
    (payload_packed _ _ _ _ (omega (arith, c.payload_length-needed.ensures)) c.pack_groups.ensures)
