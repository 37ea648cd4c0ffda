-- What writes to per-port offsets do to each register, by either page access.
-- Assumes nothing.
use mathlib.Core.Path.{◌≡◌, refl, sym, ap, ◌∙◌}
use mathlib.Core.Bool.{Bool, true, false, cond}
use mathlib.Core.List.{List, [], ◌∷◌}
use Prim.Native.Nat.{ℕ, zero, suc, ◌+◌, ◌*◌, ◌/◌, ◌%◌, ◌<◌}
use native.Mathlib.Omega.{arith}
use borrow.Author.Tests.{eqb-true, eqb-false}
use lib.Dec.{eqb}
use lib.ListN.{length, length-set}
use lib.Seq.{get_or-set_same, get_or-set_other, ext_get_or}
use Rattle.laws.specs.MaskedWrites.{masked}
use Rattle.registers.specs.declared.RegisterFile.{RegisterFile}
use Rattle.registers.specs.declared.PageAccess.{PageAccess}
use Rattle.registers.specs.RegisterMap.{mask_of}
use Rattle.registers.specs.RegisterFiles.{page_at, selection, writes_port, write_page, write_ports}
use Rattle.registers.specs.Bursts.{RegisterWrite, write_each, AllPerPort}
use Rattle.registers.proofs.RegisterMap.{per_port_small}
use Rattle.registers.proofs.RegisterFiles.{write_paged}

-- pages whose registers are the same are the same
pub same_pages : (a b : List ℕ) → length a ≡ 1024 → length b ≡ 1024
    → ((port offset : ℕ) → port < 4 → offset < 256 → page_at a port offset ≡ page_at b port offset) → a ≡ b
same_pages a b la lb h =
    ext_get_or 0 a b (la ∙ sym lb)
    (λ i (k : i < length a).
    let e : 256 * (i / 256) + i % 256 ≡ i = omega arith in
    rw e at (h (i / 256) (i % 256) (omega arith) (omega arith)))

-- what a register at an offset, which holds x, holds after a write to its port, and after one write after another
unfoldable pub after_write : ℕ → RegisterWrite → ℕ → ℕ
after_write offset write x = cond (eqb offset write.offset) (masked (mask_of write.offset) x write.value) x

unfoldable pub after_writes : ℕ → List RegisterWrite → ℕ → ℕ
after_writes offset [] x = x
after_writes offset (write ∷ writes) x = after_writes offset writes (after_write offset write x)

-- only registers of ports have changed: `after` says what that of a port at an offset, which held x, holds now
pub record PagesChanged (after : ℕ → ℕ → ℕ → ℕ) (file next : RegisterFile) : Type 0 where
  pub shared : next.shared ≡ file.shared
  pub page_count : length next.pages ≡ 1024
  pub register : (port offset : ℕ) → port < 4 → offset < 256
      → page_at next.pages port offset ≡ after port offset (page_at file.pages port offset)

changed_then : {a b c : RegisterFile} {f g : ℕ → ℕ → ℕ → ℕ} → PagesChanged f a b → PagesChanged g b c
    → PagesChanged (λ port offset x. g port offset (f port offset x)) a c
changed_then {g = g} k l =
    record {
      shared = l.shared ∙ k.shared;
      page_count = l.page_count;
      register = λ port offset hp ho.
          l.register port offset hp ho ∙ ap (g port offset) (k.register port offset hp ho);
    }

cond_same : (b : Bool) (x : ℕ) → x ≡ cond b x x
cond_same true x = refl
cond_same false x = refl

cond-twice : (b : Bool) (f : ℕ → ℕ) (y x : ℕ) → cond b (f (cond b y x)) (cond b y x) ≡ cond b (f y) x
cond-twice true f y x = refl
cond-twice false f y x = refl

-- the ports below n, one after the other, and all of them
module _ (write : RegisterWrite) (written : ℕ → Bool) where
  after_ports : ℕ → ℕ → ℕ → ℕ → ℕ
  after_ports zero port offset x = x
  after_ports (suc n) port offset x =
      let y = after_ports n port offset x in
      cond (eqb port n) (cond (written n) (after_write offset write y) y) y

  all-ports : (port offset x : ℕ) → port < 4
      → after_ports 4 port offset x ≡ cond (written port) (after_write offset write x) x
  unfolding after_ports
  all-ports zero offset x h = refl
  all-ports (suc zero) offset x h = refl
  all-ports (suc (suc zero)) offset x h = refl
  all-ports (suc (suc (suc zero))) offset x h = refl
  all-ports (suc (suc (suc (suc port)))) offset x h = absurd (omega arith)

module _ (write : RegisterWrite) (small : write.offset < 256) where
  -- a write to the page of one port, by the port and the offset
  one_page : (file : RegisterFile) (other port offset : ℕ) → length file.pages ≡ 1024 → port < 4 → offset < 256
      → page_at (write_page file other write.offset write.value).pages port offset
      ≡ cond (eqb port other) (after_write offset write (page_at file.pages port offset))
      (page_at file.pages port offset)
  unfolding write_page after_write
  one_page file other port offset count hp ho = go (eqb port other) (eqb offset at) refl refl
    where
      at : ℕ
      at = write.offset

      x : ℕ
      x = page_at file.pages port offset

      go : (a b : Bool) → eqb port other ≡ a → eqb offset at ≡ b
          → page_at (write_page file other at write.value).pages port offset
          ≡ cond a (cond b (masked (mask_of at) x write.value) x) x
      go true true p o =
          rw (← eqb-true port other p, ← eqb-true offset at o)
          (get_or-set_same file.pages (256 * port + offset) _ 0 (omega (arith, count)))
      go true false p o =
          get_or-set_other file.pages (256 * other + at) (256 * port + offset) _ 0
          (λ (e : 256 * port + offset ≡ 256 * other + at). eqb-false offset at o (omega arith))
      go false b p o =
          get_or-set_other file.pages (256 * other + at) (256 * port + offset) _ 0
          (λ (e : 256 * port + offset ≡ 256 * other + at). eqb-false port other p (omega arith))

  -- the same if the port is written, and else nothing
  one_port_lem : (file : RegisterFile) (other : ℕ) (written : Bool) → length file.pages ≡ 1024
      → PagesChanged (λ port offset x. cond (eqb port other) (cond written (after_write offset write x) x) x)
      file (cond written (write_page file other write.offset write.value) file)
  unfolding write_page
  one_port_lem file other true count =
      record {
        shared = refl;
        page_count = length-set file.pages _ _ ∙ count;
        register = λ port offset hp ho. one_page file other port offset count hp ho;
      }
  one_port_lem file other false count =
      record { shared = refl; page_count = count; register = λ port offset hp ho. cond_same (eqb port other) _ }

  -- the ports below n, by the access
  ports_changed_lem : (access : PageAccess) (file : RegisterFile) → length file.pages ≡ 1024 → (n : ℕ)
      → PagesChanged (after_ports write (writes_port access (selection file)) n)
      file (write_ports n access file write.offset write.value)
  unfolding write_ports after_ports
  ports_changed_lem access file count zero =
      record { shared = refl; page_count = count; register = λ port offset hp ho. refl }
  ports_changed_lem access file count (suc n) =
      let k = ports_changed_lem access file count n in
      changed_then k (one_port_lem _ n (writes_port access (selection file) n) k.page_count)

-- Writes to per-port offsets: a register of a port that they go to has what they make of it, any other is as it was.
pub pages_written : (access : PageAccess) (file : RegisterFile) → length file.pages ≡ 1024
    → (writes : List RegisterWrite) → AllPerPort writes
    → PagesChanged (λ port offset x. cond (writes_port access (selection file) port) (after_writes offset writes x) x)
    file (write_each access file writes)
unfolding write_each after_writes
pages_written access file count [] h =
    record { shared = refl; page_count = count; register = λ port offset hp ho. cond_same (writes_port access _ port) _ }
pages_written access file count (write ∷ writes) h =
    let written = writes_port access (selection file) in
    let k = ports_changed_lem write (per_port_small write.offset h.0) access file count 4 in
    let both = changed_then k (pages_written access (write_ports 4 access file write.offset write.value) k.page_count writes h.1) in
    rw (write_paged access file write.offset write.value h.0)
    (record {
      shared = both.shared;
      page_count = both.page_count;
      register = λ port offset hp ho. both.register port offset hp ho
          ∙ rw (k.shared, all-ports write written port offset _ hp)
          (cond-twice (written port) (after_writes offset writes) _ _);
    })
