-- The definitions of specs/RegisterFiles.antt: the lengths at reset, a write by its cases, and no port above 3.
-- Assumes nothing.
use mathlib.Core.Path.{◌≡◌}
use mathlib.Core.Bool.{true, false}
use mathlib.Core.List.{List}
use Prim.Native.Nat.{ℕ, ◌<◌}
use native.Mathlib.Omega.{arith}
use lib.ListN.{length, get_or-eq_default}
use Rattle.laws.proofs.Tables.{length-tabulate}
use Rattle.registers.specs.declared.RegisterFile.{RegisterFile}
use Rattle.registers.specs.declared.PageAccess.{PageAccess}
use Rattle.registers.specs.RegisterMap.{per_port}
use Rattle.registers.specs.RegisterFiles.{page_at, reset_file, write_shared, write_ports, write_register}

pub reset_lengths : (length reset_file.shared ≡ 256) × (length reset_file.pages ≡ 1024)
unfolding reset_file
reset_lengths = (length-tabulate _ 256, length-tabulate _ 1024)

module _ (access : PageAccess) (file : RegisterFile) (offset value : ℕ) where
  pub write_paged : per_port offset ≡ true
      → write_register access file offset value ≡ write_ports 4 access file offset value
  unfolding write_register
  write_paged e = rw e

  pub write_unpaged : per_port offset ≡ false → write_register access file offset value ≡ write_shared file offset value
  unfolding write_register
  write_unpaged e = rw e

pub no_page : (pages : List ℕ) (port offset : ℕ) → length pages ≡ 1024 → 3 < port → page_at pages port offset ≡ 0
no_page pages port offset count h = get_or-eq_default pages 0 (omega (arith, count))
