-- The last write that reached a register explains its value.
-- Assumes nothing.
use Rattle.std.proofs.Common.{◌≡◌, ℕ, ◌<◌, Bool, true, false, cond, List, [], ◌∷◌, ◌++◌, length, refl, ap, ◌∙◌}
use mathlib.Core.Option.{Option, none, some}
use Rattle.laws.specs.MaskedWrites.{masked}
use Rattle.laws.proofs.MaskedWrites.{masked_byte, masked_again}
use Rattle.registers.specs.declared.RegisterFile.{RegisterFile}
use Rattle.registers.specs.declared.PageAccess.TheVariants.{Selection}
use Rattle.registers.specs.RegisterMap.{mask_of}
use Rattle.registers.specs.Bursts.{write_each}
use Rattle.origins.specs.declared.NumberedWrite.{NumberedWrite}
use Rattle.origins.specs.NumberedWrites.{unnumbered_writes}
use Rattle.origins.specs.Origins.{Register, offset_of, IsRegister, value_at, reaches}
use Rattle.origins.specs.Origins.{after_numbered, after_each, later_or, origin_of, value_from, OriginExplains}
use Rattle.origins.proofs.Reaching.{offset_byte, reached_offset}
use Rattle.origins.proofs.OneWrite.{mask_byte, counts, written, value_byte}

-- the later one of several
or_none : (origin : Option NumberedWrite) → origin ≡ later_or origin none
or_none none = refl
or_none (some write) = refl

or_or : (a b c : Option NumberedWrite) → later_or (later_or a b) c ≡ later_or a (later_or b c)
or_or none b c = refl
or_or (some write) b c = refl

module _ (register : Register) (h : IsRegister register) where
  mask_small : mask_of (offset_of register) < 256
  mask_small = mask_byte (offset_of register) (offset_byte register h)

  -- what the register holds after one write
  pub after_one : (file : RegisterFile) → length file.shared ≡ 256 → length file.pages ≡ 1024
      → value_at file register < 256 → (write : NumberedWrite)
      → value_at (after_numbered file write) register
      ≡ cond (reaches file write.offset register)
      (masked (mask_of (offset_of register)) (value_at file register) write.value) (value_at file register)
  after_one file shared_count page_count small write =
      written file write.offset write.value shared_count page_count register h small
      ∙ go (reaches file write.offset register) refl
    where
      x : ℕ
      x = value_at file register

      go : (b : Bool) → reaches file write.offset register ≡ b
          → cond b (masked (mask_of write.offset) x write.value) x
          ≡ cond b (masked (mask_of (offset_of register)) x write.value) x
      go true e = rw (reached_offset file write.offset register e)
      go false e = refl

  pub byte_after : (b : Bool) (x value : ℕ) → x < 256 → cond b (masked (mask_of (offset_of register)) x value) x < 256
  byte_after true x value small = masked_byte (mask_of (offset_of register)) mask_small x value
  byte_after false x value small = small

  -- one write more in front of the last one
  one_more : (b : Bool) (x : ℕ) (write : NumberedWrite) (later : Option NumberedWrite)
      → value_from later register (cond b (masked (mask_of (offset_of register)) x write.value) x)
      ≡ value_from (later_or later (cond b (some write) none)) register x
  one_more true x write none = refl
  one_more false x write none = refl
  one_more true x write (some later) =
      masked_again (mask_of (offset_of register)) mask_small x write.value later.value
  one_more false x write (some later) = refl

  explains : (file : RegisterFile) → length file.shared ≡ 256 → length file.pages ≡ 1024
      → value_at file register < 256 → (writes : List NumberedWrite)
      → value_at (write_each Selection file (unnumbered_writes writes)) register
      ≡ value_from (origin_of file writes register) register (value_at file register)
  unfolding write_each unnumbered_writes origin_of
  explains file shared_count page_count small [] = refl
  explains file shared_count page_count small (write ∷ writes) =
      let next = after_numbered file write in
      let one = after_one file shared_count page_count small write in
      let c = counts file write.offset write.value page_count in
      let byte = byte_after (reaches file write.offset register) (value_at file register) write.value small in
      explains next (c.0 ∙ shared_count) c.1 (rw one byte) writes
      ∙ ap (value_from (origin_of next writes register) register) one
      ∙ one_more (reaches file write.offset register) (value_at file register) write (origin_of next writes register)

-- after some writes and others
pub origin_append : (register : Register) (file : RegisterFile) (a b : List NumberedWrite)
    → origin_of file (a ++ b) register ≡ later_or (origin_of (after_each file a) b register) (origin_of file a register)
unfolding origin_of write_each unnumbered_writes
origin_append register file [] b = or_none (origin_of file b register)
origin_append register file (write ∷ a) b =
    rw (origin_append register (after_numbered file write) a b) (or_or (origin_of _ b register) (origin_of _ a register) _)

pub origin_explains : OriginExplains
origin_explains start f writes register h =
    explains register h start f.shared_count f.page_count (value_byte start f register) writes
