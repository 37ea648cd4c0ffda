-- `csi2::long::write_long_packet` meets its contract, by the cases of the definition.
use mathlib.Core.Path.{◌≡◌, refl, sym, ◌∙◌}
use mathlib.Core.Bool.{Bool, true, false, cond}
use Prim.Native.Nat.{◌+◌, ◌≤◌}
use borrow.Author.Tests.{leb-true}
use lib.ListN.{length}
use Rattle.laws.specs.Reply.{refused, given}
use Rattle.laws.proofs.Buffers.{refusal, writing}
use Rattle.packing.specs.Raw.{payload_of, width_allowed}
use Rattle.packing.proofs.CheckLaws.{allowed_small}
use Rattle.csi2.specs.Packets.{is_short, long_packet}
use Rattle.csi2.specs.Writers.{long_packet_reply}
use Rattle.csi2.proofs.WriterLaws.{packet_count, long_by}
use native.Mathlib.Omega.{arith}
use Rattle.csi2.proofs.long.write_long_packet.Goals as goal
use Rattle.csi2.proofs.long.write_long_packet.Goals.{After-has_room, Else-is_short, Else-not-width_allowed}

-- after the first test the width is allowed, and so small, and after the second the type is that of a long packet
allowed : (e : Else-not-width_allowed) → let x = e.args in width_allowed x.format (length x.pixels.now) ≡ true
allowed e = sym e.width_allowed.ensures ∙ e.if-not-width_allowed.false

small : (e : Else-not-width_allowed) → let x = e.args in length x.pixels.now ≤ 4096
small e = allowed_small _ _ (allowed e)

long : (e : Else-is_short) → is_short e.args.identifier ≡ false
long e = sym e.is_short.ensures ∙ e.if-is_short.false

-- after all tests, by whether there is room
answered : (r : After-has_room) {room : Bool} → r.has_room.result ≡ room → let x = r.args in
    long_packet_reply x.format x.pixels.now x.identifier (length x.buf.now) x.place
    ≡ cond room (given (long_packet x.identifier (payload_of x.format x.pixels.now))) (refused 8)
answered r e = long_by _ _ _ _ _ _ r.payload_length-needed.ensures (sym r.width_allowed.ensures ∙ r.if-not-width_allowed.false) (sym r.is_short.ensures ∙ r.if-is_short.false) (sym r.has_room.ensures ∙ e)

pub returns-then-not-width_allowed : goal.returns-then-not-width_allowed
returns-then-not-width_allowed c = refusal _ _ 5 (long_by _ _ _ _ _ _ refl (sym c.width_allowed.ensures ∙ c.if-not-width_allowed.true) refl refl)

pub returns-then-is_short : goal.returns-then-is_short
returns-then-is_short c = refusal _ _ 7 (long_by _ _ _ _ _ _ refl (allowed ((goal.at.returns-then-is_short c).Else-not-width_allowed)) (sym c.is_short.ensures ∙ c.if-is_short.true) refl)

pub overflow_cast-pixels : goal.overflow_cast-pixels
overflow_cast-pixels c = let h = small ((goal.at.overflow_cast-pixels c).Else-not-width_allowed) in omega arith

pub returns-then-not-has_room : goal.returns-then-not-has_room
returns-then-not-has_room c = refusal _ _ 8 (answered ((goal.at.returns-then-not-has_room c).After-has_room) (c.if-not-has_room.true))

pub put_packet_at-requires : goal.put_packet_at-requires
put_packet_at-requires c =
    let x = c.args in
    let room : x.place + (6 + c.payload_length-needed.result) ≤ length x.buf.now = leb-true _ _ (sym c.has_room.ensures ∙ c.if-not-has_room.false) in
    (small ((goal.at.put_packet_at-requires c).Else-not-width_allowed), rw c.payload_length-needed.ensures at room)

pub returns : goal.returns
returns c = writing _ _ _ _ (answered ((goal.at.returns c).After-has_room) (c.if-not-has_room.false)) (sym (packet_count _ _ _ _ c.payload_length-needed.ensures)) c.put_packet_at.ensures
