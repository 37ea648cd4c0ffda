-- One register write: it gives each register that it reaches the writable bits of its value, and leaves every other.
-- Assumes nothing.
use Rattle.std.proofs.Common.{◌≡◌, ℕ, ◌<◌, Bool, true, false, cond, not, ◌&&◌, eqb, ltb, List, [], ◌∷◌, length, get_or, refl, ap, ◌∙◌, arith, lit<, ltb→lt, length-set, get_or-set_other, get_or-set_same, eqb-true}
use borrow.Author.Tests.{eqb-false}
use Rattle.laws.specs.Bits.{digit, bit}
use Rattle.laws.specs.MaskedWrites.{masked}
use Rattle.laws.proofs.Bits.{same_digits, bit_above}
use Rattle.laws.proofs.Bools.{never}
use Rattle.laws.proofs.MaskedWrites.{masked_byte, masked_digit}
use Rattle.laws.proofs.Tables.{all_below, below_at}
use Rattle.registers.specs.declared.RegisterFile.{RegisterFile}
use Rattle.registers.specs.declared.PageAccess.TheVariants.{Selection}
use Rattle.registers.specs.RegisterMap.{rows, row_in, mask_of, per_port}
use Rattle.registers.specs.RegisterFiles.{shared_at, page_at, selection, write_shared, write_register}
use Rattle.registers.specs.Bursts.{write_each}
use Rattle.registers.proofs.RegisterFiles.{write_unpaged}
use Rattle.registers.proofs.PageWrites.{after_write, after_writes, PagesChanged, pages_written}
use Rattle.origins.specs.Origins.{Register, shared_register, port_register, IsRegister, value_at, reaches}
use Rattle.origins.specs.Origins.{FileOfBytes, WrittenWhereReached}

-- a write under a mask with no bit changes nothing
masked_none : (old value : ℕ) → old < 256 → masked 0 old value ≡ old
masked_none old value h =
    same_digits 8 _ _ (masked_byte 0 (lit< tt) old value) h
    (λ k (l : k < 8). masked_digit 0 (lit< tt) k old value l
    ∙ ap (λ (b : Bool). cond b (digit k value) (digit k old)) (bit_above 0 k 0 (lit< tt) (omega arith)))

pub mask_byte : (offset : ℕ) → offset < 256 → mask_of offset < 256
unfolding all_below mask_of row_in rows
mask_byte offset h = ltb→lt (mask_of offset) 256 (below_at (λ o. ltb (mask_of o) 256) 256 tt offset h)

module _ (file : RegisterFile) (at value : ℕ) where
  -- what the registers of the ports hold after a write to a per-port offset
  ports_written : length file.pages ≡ 1024 → per_port at ≡ true
      → PagesChanged
      (λ port offset x.
      cond (bit port (selection file)) (after_write offset (record { offset = at; value = value }) x) x)
      file (write_register Selection file at value)
  unfolding write_each after_writes
  ports_written count p = pages_written Selection file count (record { offset = at; value = value } ∷ []) (p, tt)

  -- the counts stay
  pub counts : length file.pages ≡ 1024
      → (length (write_register Selection file at value).shared ≡ length file.shared)
      × (length (write_register Selection file at value).pages ≡ 1024)
  unfolding write_shared
  counts count = go (per_port at) refl
    where
      go : (p : Bool) → per_port at ≡ p
          → (length (write_register Selection file at value).shared ≡ length file.shared)
          × (length (write_register Selection file at value).pages ≡ 1024)
      go true p = let w = ports_written count p in (ap length w.shared, w.page_count)
      go false p = rw (write_unpaged Selection file at value p) (length-set file.shared _ _, count)

  module _ (shared_count : length file.shared ≡ 256) (page_count : length file.pages ≡ 1024) where
    shared_written : (offset : ℕ) → offset < 256 → shared_at file offset < 256
        → shared_at (write_register Selection file at value) offset
        ≡ cond (reaches file at (shared_register offset))
        (masked (mask_of at) (shared_at file offset) value) (shared_at file offset)
    unfolding reaches write_shared
    shared_written offset ho small = go (per_port at) (eqb offset at) (eqb (mask_of at) 0) refl refl refl
      where
        x : ℕ
        x = shared_at file offset

        go : (p e m : Bool) → per_port at ≡ p → eqb offset at ≡ e → eqb (mask_of at) 0 ≡ m
            → shared_at (write_register Selection file at value) offset
            ≡ cond (e && not m && not p) (masked (mask_of at) x value) x
        go true e m p o z =
            rw (never (e && not m)) (ap (λ (l : List ℕ). get_or l offset 0) (ports_written page_count p).shared)
        go false false m p o z =
            rw (write_unpaged Selection file at value p)
            (get_or-set_other file.shared at offset _ 0 (eqb-false offset at o))
        go false true false p o z =
            rw (write_unpaged Selection file at value p, ← eqb-true offset at o)
            (get_or-set_same file.shared offset _ 0 (omega (arith, shared_count)))
        go false true true p o z =
            rw (write_unpaged Selection file at value p, eqb-true (mask_of at) 0 z, ← eqb-true offset at o)
            (get_or-set_same file.shared offset _ 0 (omega (arith, shared_count)) ∙ masked_none x value small)

    port_written : (port offset : ℕ) → port < 4 → offset < 256 → page_at file.pages port offset < 256
        → page_at (write_register Selection file at value).pages port offset
        ≡ cond (reaches file at (port_register port offset))
        (masked (mask_of at) (page_at file.pages port offset) value) (page_at file.pages port offset)
    unfolding reaches write_shared after_write
    port_written port offset hp ho small =
        go (per_port at) (eqb offset at) (eqb (mask_of at) 0) (bit port (selection file)) refl refl refl refl
      where
        x : ℕ
        x = page_at file.pages port offset

        go : (p e m b : Bool) → per_port at ≡ p → eqb offset at ≡ e → eqb (mask_of at) 0 ≡ m
            → bit port (selection file) ≡ b
            → page_at (write_register Selection file at value).pages port offset
            ≡ cond (e && not m && (p && b)) (masked (mask_of at) x value) x
        go false e m b p o z s = rw (write_unpaged Selection file at value p, never (e && not m))
        go true e m false p o z s = (ports_written page_count p).register port offset hp ho ∙ rw (s, never (e && not m))
        go true false m true p o z s = (ports_written page_count p).register port offset hp ho ∙ rw (s, o)
        go true true false true p o z s = (ports_written page_count p).register port offset hp ho ∙ rw (s, o)
        go true true true true p o z s =
            (ports_written page_count p).register port offset hp ho
            ∙ rw (s, o, eqb-true (mask_of at) 0 z) (masked_none x value small)

    pub written : (register : Register) → IsRegister register → value_at file register < 256
        → value_at (write_register Selection file at value) register
        ≡ cond (reaches file at register) (masked (mask_of at) (value_at file register) value) (value_at file register)
    written (shared_register offset) h small = shared_written offset h small
    written (port_register port offset) h small = port_written port offset h.0 h.1 small

pub value_byte : (file : RegisterFile) → FileOfBytes file → (register : Register) → value_at file register < 256
value_byte file f (shared_register offset) = f.shared_bytes offset
value_byte file f (port_register port offset) = f.page_bytes _

pub written_where_reached : WrittenWhereReached
written_where_reached file f at value register h =
    written file at value f.shared_count f.page_count register h (value_byte file f register)
