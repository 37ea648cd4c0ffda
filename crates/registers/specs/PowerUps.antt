-- How the hub's registers start: L5.
-- Assumes nothing.
use Rattle.std.specs.Prelude.{◌≡◌, ℕ}
use Rattle.registers.specs.declared.RegisterFile.{RegisterFile}
use Rattle.registers.specs.declared.power_up.PowerUp.{PowerUp}
use Rattle.registers.specs.declared.power_up.PowerUp.TheVariants.{Boot, Reset}
use Rattle.registers.specs.RegisterMap.{MAX_FRM_HI, MAX_FRM_LO}
use Rattle.registers.specs.RegisterFiles.{shared_at, reset_file, write_shared}

-- "Our boot code clears the largest frame number, so frames carry 0 until a script sets it." It finds the chip at
-- reset.
unfoldable pub boot_file : RegisterFile
boot_file = write_shared (write_shared reset_file MAX_FRM_HI 0) MAX_FRM_LO 0

-- "Start so unless asked": as the boot code leaves the chip, or at "the data sheet's reset"
unfoldable pub power_up_file : PowerUp → RegisterFile
power_up_file Boot = boot_file
power_up_file Reset = reset_file

-- the largest frame number is 0, and every other register is as at reset
pub record BootClears : Type 0 where
  pub high : shared_at boot_file MAX_FRM_HI ≡ 0
  pub low : shared_at boot_file MAX_FRM_LO ≡ 0
  pub others : (offset : ℕ) → (offset ≡ MAX_FRM_HI → ⊥) → (offset ≡ MAX_FRM_LO → ⊥)
      → shared_at boot_file offset ≡ shared_at reset_file offset
  pub pages : boot_file.pages ≡ reset_file.pages
