-- `packing::groups::pack_groups` meets its contract: the part from the place on is lent, and is back; beyond the buffer nothing is packed.
use mathlib.Core.Path.{◌≡◌, sym, ap, ◌∙◌}
use Prim.Native.Nat.{◌-◌}
use native.Mathlib.Omega.{arith}
use lib.ListN.{length, drop, length-drop}
use lib.Seq.{length-take-le}
use borrow.Rule.Slice.PartMut.{mid_of}
use Rattle.laws.specs.Buffers.{written}
use Rattle.laws.proofs.Buffers.{written_nil, lent_written}
use Rattle.packing.proofs.RawLaws.{packed_fits, none_packed}
use Rattle.packing.proofs.groups.pack_groups.Goals as goal

pub returns-then-place-buf : goal.returns-then-place-buf
returns-then-place-buf c =
    let x = c.args in
    let d = x.buf.now in
    let room = length d - x.place in
    let l : length (mid_of x.place room d) ≡ room = length-take-le room (drop x.place d) (let k = length-drop x.place d in omega arith) in
    let fits = packed_fits x.format x.pixels.now room in
    lent_written d _ _ x.place (omega arith) (rw l at c.pack.ensures)

pub returns-else-place-buf : goal.returns-else-place-buf
returns-else-place-buf c =
    let x = c.args in
    let none : length x.buf.now - x.place ≡ 0 = omega arith in
    sym (ap (written x.buf.now x.place) (none_packed x.format x.pixels.now _ none) ∙ written_nil x.buf.now x.place)
