-- How the registers start: the boot code clears the largest frame number alone; the lengths of both starts.
-- Assumes nothing.
use mathlib.Core.Path.{◌≡◌, refl, ap, ◌∙◌}
use Prim.Native.Nat.{ℕ}
use lib.ListN.{length, length-set}
use lib.Seq.{get_or-set_other}
use Rattle.laws.specs.MaskedWrites.{masked}
use Rattle.laws.specs.Tables.{tabulate, tabulate_from}
use Rattle.registers.specs.declared.RegisterFile.{RegisterFile}
use Rattle.registers.specs.declared.power_up.PowerUp.{PowerUp}
use Rattle.registers.specs.declared.power_up.PowerUp.TheVariants.{Boot, Reset}
use Rattle.registers.specs.RegisterMap.{rows, row_in, reset_of, mask_of, MAX_FRM_HI, MAX_FRM_LO}
use Rattle.registers.specs.RegisterFiles.{shared_at, reset_file, write_shared}
use Rattle.registers.specs.PowerUps.{boot_file, power_up_file, BootClears}
use Rattle.registers.proofs.RegisterFiles.{reset_lengths}

unset : (file : RegisterFile) (at value offset : ℕ) → (offset ≡ at → ⊥)
    → shared_at (write_shared file at value) offset ≡ shared_at file offset
unfolding write_shared
unset file at value offset h = get_or-set_other file.shared at offset _ 0 h

pub write_lengths : (file : RegisterFile) (at value : ℕ)
    → (length (write_shared file at value).shared ≡ length file.shared)
unfolding write_shared
write_lengths file at value = length-set {A = ℕ} file.shared at _

cleared : (shared_at boot_file MAX_FRM_HI ≡ 0) × (shared_at boot_file MAX_FRM_LO ≡ 0)
unfolding masked tabulate tabulate_from rows row_in reset_of mask_of reset_file write_shared boot_file
cleared = (refl, refl)

pages_kept : boot_file.pages ≡ reset_file.pages
unfolding write_shared boot_file
pages_kept = refl

pub boot_clears : BootClears
unfolding boot_file
boot_clears =
    record {
      high = cleared.0;
      low = cleared.1;
      others = λ offset h l.
          unset (write_shared reset_file MAX_FRM_HI 0) MAX_FRM_LO 0 offset l ∙ unset reset_file MAX_FRM_HI 0 offset h;
      pages = pages_kept;
    }

pub power_up_lengths : (start : PowerUp)
    → (length (power_up_file start).shared ≡ 256) × (length (power_up_file start).pages ≡ 1024)
unfolding power_up_file boot_file
power_up_lengths Boot = (
  write_lengths (write_shared reset_file MAX_FRM_HI 0) MAX_FRM_LO 0
      ∙ write_lengths reset_file MAX_FRM_HI 0
      ∙ reset_lengths.0,
  ap length pages_kept ∙ reset_lengths.1,
)
power_up_lengths Reset = reset_lengths
