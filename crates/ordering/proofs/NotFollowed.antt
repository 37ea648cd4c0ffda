-- A write that is not followed changes nothing: the registers are those that the writes that are followed leave.
-- Assumes nothing.
use Rattle.std.proofs.Common.{◌≡◌, ℕ, ◌<◌, Bool, true, false, cond, List, [], ◌∷◌, sym, refl, ap, ◌∙◌, ap₂, mod-eq_of_lt}
use lib.Bits.{bit_or, and_zero_r, and_mask, or_zero_l}
use lib.Seq.{set-get_or}
use Rattle.laws.specs.Elements.{AreBytes}
use Rattle.laws.specs.MaskedWrites.{masked}
use Rattle.laws.proofs.Absurd.{zero_not_one}
use Rattle.registers.specs.declared.RegisterFile.{RegisterFile}
use Rattle.registers.specs.declared.PageAccess.TheVariants.{Selection as BySelection}
use Rattle.registers.specs.RegisterMap.{per_port}
use Rattle.registers.specs.RegisterFiles.{shared_at, write_shared}
use Rattle.registers.specs.Bursts.{write_each}
use Rattle.registers.proofs.RegisterFiles.{write_unpaged}
use Rattle.origins.specs.declared.NumberedWrite.{NumberedWrite}
use Rattle.origins.specs.NumberedWrites.{unnumbered_writes}
use Rattle.origins.specs.Origins.{after_numbered, after_each, FileOfBytes}
use Rattle.origins.proofs.FileBytes.{bytes_kept}
use Rattle.ordering.specs.declared.kinds.WriteKind.{WriteKind}
use Rattle.ordering.specs.declared.kinds.WriteKind.TheVariants.{NotFollowed, Selection}
use Rattle.ordering.specs.declared.kinds.WriteKind.TheVariants.{PortRegister, SharedRegister}
use Rattle.ordering.specs.Kinds.{kind, is_followed, followed}
use Rattle.ordering.proofs.KindLaws.{not_followed_mask, paged_kind_lem}

-- a write under no mask
masked_none : (old value : ℕ) → old < 256 → masked 0 old value ≡ old
unfolding masked
masked_none old value h = ap₂ bit_or (and_zero_r value) (and_mask old 8 ∙ mod-eq_of_lt h) ∙ or_zero_l old

not_followed_nothing : (file : RegisterFile) → AreBytes file.shared → (w : NumberedWrite) → kind w ≡ NotFollowed
    → after_numbered file w ≡ file
unfolding write_shared
not_followed_nothing file bytes w e = go (per_port w.offset) refl
  where
    go : (b : Bool) → per_port w.offset ≡ b → after_numbered file w ≡ file
    go true p = let z = sym e ∙ paged_kind_lem w.offset p in zero_not_one (cc)
    go false p =
        rw (
          write_unpaged BySelection file w.offset w.value p,
          not_followed_mask w.offset e,
          masked_none (shared_at file w.offset) w.value (bytes w.offset),
          set-get_or file.shared w.offset 0,
        )

-- a file of bytes stays one
one_kept : (file : RegisterFile) → FileOfBytes file → (w : NumberedWrite) → FileOfBytes (after_numbered file w)
unfolding write_each unnumbered_writes
one_kept file f w = bytes_kept file f (w ∷ [])

pub followed_writes : (file : RegisterFile) → FileOfBytes file → (ws : List NumberedWrite)
    → after_each file ws ≡ after_each file (followed ws)
unfolding write_each unnumbered_writes followed
followed_writes file s [] = refl
followed_writes file s (w ∷ ws) = go (kind w) refl (followed_writes (after_numbered file w) (one_kept file s w) ws)
  where
    go : (k : WriteKind) → kind w ≡ k
        → after_each (after_numbered file w) ws
        ≡ after_each (after_numbered file w) (followed ws)
        → after_each (after_numbered file w) ws
        ≡ after_each file (cond (is_followed k) (w ∷ followed ws) (followed ws))
    go NotFollowed e rest =
        rest
        ∙ ap (λ (f : RegisterFile). after_each f (followed ws))
        (not_followed_nothing file s.shared_bytes w e)
    go Selection e rest = rest
    go PortRegister e rest = rest
    go SharedRegister e rest = rest
