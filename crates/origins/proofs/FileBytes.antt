-- What holds of a register file by its type holds at reset, as the hub starts, and after a write.
-- Assumes nothing.
use Rattle.std.proofs.Common.{◌≡◌, ℕ, ◌+◌, ◌*◌, ◌/◌, ◌%◌, ◌<◌, ◌≤◌, Bool, true, false, ltb, List, [], ◌∷◌, length, get_or, refl, ◌∙◌, arith, ltb-false, ltb-true}
use lib.ListN.{get_or-eq_default}
use Rattle.laws.specs.Elements.{AreBytes}
use Rattle.laws.proofs.Tables.{tabulate-at}
use Rattle.registers.specs.declared.RegisterFile.{RegisterFile}
use Rattle.registers.specs.declared.power_up.PowerUp.TheVariants.{Boot, Reset}
use Rattle.registers.specs.RegisterMap.{rows, row_in, reset_of, per_port, MAX_FRM_HI, MAX_FRM_LO}
use Rattle.registers.specs.RegisterFiles.{page_reset_at, reset_file, write_register}
use Rattle.registers.specs.PowerUps.{boot_file, power_up_file}
use Rattle.registers.specs.Bursts.{write_each}
use Rattle.registers.proofs.RegisterMap.{reset_byte_lem}
use Rattle.registers.proofs.RegisterFiles.{reset_lengths}
use Rattle.origins.specs.declared.NumberedWrite.{NumberedWrite}
use Rattle.origins.specs.NumberedWrites.{unnumbered_writes}
use Rattle.origins.specs.Origins.{Register, shared_register, port_register, IsRegister, value_at}
use Rattle.origins.specs.Origins.{reaches, after_numbered, FileOfBytes, ResetOfBytes, PowerUpOfBytes, BytesKept}
use Rattle.origins.proofs.OneWrite.{counts, value_byte}
use Rattle.origins.proofs.Origins.{after_one, byte_after}

-- a list of n elements, of which each is a byte
all-bytes : (l : List ℕ) (n : ℕ) → length l ≡ n → ((i : ℕ) → i < n → get_or l i 0 < 256) → AreBytes l
all-bytes l n count each i = go (ltb i n) refl
  where
    go : (b : Bool) → ltb i n ≡ b → get_or l i 0 < 256
    go true e = each i (ltb-true i n e)
    go false e =
        let past : length l ≤ i = omega (arith, count, ltb-false i n e) in
        let none : get_or l i 0 ≡ 0 = get_or-eq_default l 0 past in
        omega arith

pub reset_of_bytes : ResetOfBytes
unfolding reset_file page_reset_at
reset_of_bytes =
    record {
      shared_count = reset_lengths.0;
      page_count = reset_lengths.1;
      shared_bytes = all-bytes reset_file.shared 256 reset_lengths.0
          (λ i h. rw (tabulate-at (reset_of 0) 256 i h) (reset_byte_lem 0 i (omega arith) h));
      page_bytes = all-bytes reset_file.pages 1024 reset_lengths.1
          (λ i (h : i < 1024).
          rw (tabulate-at page_reset_at 1024 i h) (reset_byte_lem (i / 256) (i % 256) (omega arith) (omega arith)));
    }

module _ (file : RegisterFile) (f : FileOfBytes file) (write : NumberedWrite) where
  register_byte : (register : Register) → IsRegister register → value_at (after_numbered file write) register < 256
  register_byte register h =
      rw (after_one register h file f.shared_count f.page_count (value_byte file f register) write)
      (byte_after register h (reaches file write.offset register) (value_at file register) write.value
      (value_byte file f register))

  one_kept : FileOfBytes (after_numbered file write)
  one_kept =
      let c = counts file write.offset write.value f.page_count in
      record {
        shared_count = c.0 ∙ f.shared_count;
        page_count = c.1;
        shared_bytes = all-bytes (after_numbered file write).shared 256 (c.0 ∙ f.shared_count)
            (λ i h. register_byte (shared_register i) h);
        page_bytes = all-bytes (after_numbered file write).pages 1024 c.1
            (λ i (h : i < 1024).
            let e : 256 * (i / 256) + i % 256 ≡ i = omega arith in
            rw e at (register_byte (port_register (i / 256) (i % 256)) (omega arith, omega arith)));
      }

pub bytes_kept : BytesKept
unfolding write_each unnumbered_writes
bytes_kept file f [] = f
bytes_kept file f (write ∷ writes) = bytes_kept (after_numbered file write) (one_kept file f write) writes

-- the boot code's two writes
clearing : ℕ → NumberedWrite
clearing offset = record { number = 0; offset = offset; value = 0 }

boot_written : after_numbered (after_numbered reset_file (clearing MAX_FRM_HI)) (clearing MAX_FRM_LO) ≡ boot_file
unfolding clearing write_register per_port row_in rows boot_file
boot_written = refl

pub power_up_of_bytes : PowerUpOfBytes
unfolding power_up_file
power_up_of_bytes Boot =
    let high = after_numbered reset_file (clearing MAX_FRM_HI) in
    rw boot_written at (one_kept high (one_kept reset_file reset_of_bytes (clearing MAX_FRM_HI)) (clearing MAX_FRM_LO))
power_up_of_bytes Reset = reset_of_bytes
