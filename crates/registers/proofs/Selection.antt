-- The selection register: what writes do that start with a write of it, and that a later write hides an earlier one.
-- Assumes nothing.
use mathlib.Core.Path.{◌≡◌, refl, ap, ◌∙◌}
use mathlib.Core.Bool.{Bool, true, false, cond}
use mathlib.Core.List.{List, ◌∷◌}
use Prim.Native.Nat.{ℕ, ◌<◌}
use native.Mathlib.Omega.{arith}
use lib.Dec.{lit<}
use lib.ListN.{length, length-set}
use lib.Seq.{get_or-set_same, get_or-set_other}
use Rattle.laws.specs.Bits.{bit}
use Rattle.laws.specs.MaskedWrites.{masked}
use Rattle.laws.proofs.MaskedWrites.{masked_bit, masked_again}
use Rattle.laws.proofs.Tables.{all_below, true_below}
use Rattle.registers.specs.declared.RegisterFile.{RegisterFile}
use Rattle.registers.specs.declared.PageAccess.TheVariants.{Selection}
use Rattle.registers.specs.RegisterMap.{rows, row_in, mask_of, per_port, FPD3_PORT_SEL}
use Rattle.registers.specs.RegisterFiles.{shared_at, page_at, selection, write_shared}
use Rattle.registers.specs.Bursts.{RegisterWrite, write_each, AllPerPort}
use Rattle.registers.proofs.RegisterFiles.{write_unpaged}
use Rattle.registers.proofs.PageWrites.{after_writes, pages_written}

selection_shared : per_port FPD3_PORT_SEL ≡ false
unfolding per_port row_in rows
selection_shared = refl

selection_mask : mask_of FPD3_PORT_SEL < 256
unfolding mask_of row_in rows
selection_mask = lit< tt

-- RX_WRITE_PORT_3 to 0 are writable
write_ports_writable : (port : ℕ) → port < 4 → bit port (mask_of FPD3_PORT_SEL) ≡ true
unfolding all_below bit mask_of row_in rows
write_ports_writable port h = true_below (λ p. bit p (mask_of FPD3_PORT_SEL)) 4 tt port h

selected_bit : (port before value : ℕ) → port < 4
    → bit port (masked (mask_of FPD3_PORT_SEL) before value) ≡ bit port value
selected_bit port before value h =
    masked_bit (mask_of FPD3_PORT_SEL) selection_mask port before value (omega arith)
    ∙ ap (λ (b : Bool). cond b (bit port value) (bit port before)) (write_ports_writable port h)

pub selected_again : (before value later : ℕ)
    → masked (mask_of FPD3_PORT_SEL) (masked (mask_of FPD3_PORT_SEL) before value) later
    ≡ masked (mask_of FPD3_PORT_SEL) before later
selected_again before value later = masked_again (mask_of FPD3_PORT_SEL) selection_mask before value later

-- Of the shared registers only the selection has changed: it holds `selected` now. `after` says what the register of a
-- port at an offset, which held x, holds now.
pub record SelectionChanged (selected : ℕ) (after : ℕ → ℕ → ℕ → ℕ) (file next : RegisterFile) : Type 0 where
  pub selection : selection next ≡ selected
  pub shared : (offset : ℕ) → (offset ≡ FPD3_PORT_SEL → ⊥) → shared_at next offset ≡ shared_at file offset
  pub shared_count : length next.shared ≡ 256
  pub page_count : length next.pages ≡ 1024
  pub register : (port offset : ℕ) → port < 4 → offset < 256
      → page_at next.pages port offset ≡ after port offset (page_at file.pages port offset)

-- a write of the selection, and then writes to per-port offsets: they go to the ports that its value selects
pub after_selecting : (file : RegisterFile) → length file.shared ≡ 256 → length file.pages ≡ 1024
    → (write : RegisterWrite) → write.offset ≡ FPD3_PORT_SEL → (writes : List RegisterWrite) → AllPerPort writes
    → SelectionChanged (masked (mask_of FPD3_PORT_SEL) (selection file) write.value)
    (λ port offset x. cond (bit port write.value) (after_writes offset writes x) x)
    file (write_each Selection file (write ∷ writes))
unfolding write_each write_shared
after_selecting file shared_count page_count write e writes h =
    let opened = write_shared file FPD3_PORT_SEL write.value in
    let now = masked (mask_of FPD3_PORT_SEL) (selection file) write.value in
    let held : selection opened ≡ now = get_or-set_same file.shared FPD3_PORT_SEL now 0 (omega (arith, shared_count)) in
    let k = pages_written Selection opened page_count writes h in
    rw (e, write_unpaged Selection file FPD3_PORT_SEL write.value selection_shared)
    (record {
      selection = rw k.shared held;
      shared = λ offset ne. rw k.shared (get_or-set_other file.shared FPD3_PORT_SEL offset now 0 ne);
      shared_count = ap length k.shared ∙ length-set file.shared FPD3_PORT_SEL now ∙ shared_count;
      page_count = k.page_count;
      register = λ port offset hp ho. k.register port offset hp ho
          ∙ rw (held, selected_bit port (selection file) write.value hp);
    })
