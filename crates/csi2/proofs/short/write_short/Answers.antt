-- `csi2::short::write_short` meets its contract, by the cases of the definition.
use mathlib.Core.Path.{refl, sym, ◌∙◌}
use Rattle.csi2.specs.Packets.{header_bytes}
use Rattle.laws.proofs.Buffers.{refusal, writing}
use Rattle.csi2.proofs.WriterLaws.{short_by}
use Rattle.csi2.proofs.short.write_short.Goals as goal

pub returns-then-not-has_room : goal.returns-then-not-has_room
returns-then-not-has_room c = refusal _ _ 8 (short_by _ _ _ _ _ (sym c.has_room.ensures ∙ c.if-not-has_room.true))

pub returns : goal.returns
unfolding header_bytes
returns c =
    writing _ _ 4 _ (short_by _ _ _ _ _ (sym c.has_room.ensures ∙ c.if-not-has_room.false)) refl
    (rw c.sync_identifier.ensures at c.put_header_at.ensures)
