-- Short scripts on a hub after reset, and what is found in them.
-- Assumes nothing.
use Rattle.std.specs.Prelude.{◌≡◌, ℕ, true, false, List, [], ◌∷◌, ◌++◌, None, Some}
use Rattle.registers.specs.RegisterFiles.{reset_file}
use Rattle.origins.specs.declared.NumberedWrite.{NumberedWrite}
use Rattle.findings.specs.AtWrites.{not_followed, no_port, bits_ignored, no_change, odd_alias}
use Rattle.findings.specs.Replaced.{replaced}

abbrev write : ℕ → ℕ → ℕ → NumberedWrite
write number offset value = record { number = number; offset = offset; value = value }

-- port 1 gets the alias 0x31
abbrev first : List NumberedWrite
first = write 2 0x4C 0x12 ∷ write 3 0x65 0x62 ∷ []

-- and is selected again
abbrev wrong_page : List NumberedWrite
wrong_page = first ++ (write 4 0x4C 0x12 ∷ [])

-- both in one record of a trace: of a burst from 0x65 over 0xFF to 0x4C, its first write and its last
abbrev one_record : List NumberedWrite
one_record = write 2 0x4C 0x12 ∷ write 3 0x65 0x62 ∷ write 3 0x4C 0x12 ∷ []

pub record Replacements : Type 0 where
  pub other_block : replaced reset_file wrong_page (write 5 0x65 0x66) 1 ≡ Some 3
  pub burst : replaced reset_file one_record (write 4 0x65 0x66) 1 ≡ Some 3
  pub other_port : replaced reset_file wrong_page (write 5 0x65 0x66) 0 ≡ None
  pub value_stays : replaced reset_file wrong_page (write 5 0x65 0x62) 1 ≡ None
  pub repeated : replaced reset_file (wrong_page ++ (write 5 0x65 0x62 ∷ [])) (write 6 0x65 0x66) 1 ≡ None
  pub same_block : replaced reset_file first (write 4 0x65 0x66) 1 ≡ None

pub record AtWrites : Type 0 where
  pub unticked : no_port reset_file [] (write 1 0x65 0x62) ≡ true
  pub ticked : no_port reset_file first (write 4 0x65 0x62) ≡ false
  pub csi_output : not_followed (write 1 0x33 0x01) ≡ true
  pub selection_bit7 : bits_ignored reset_file [] (write 1 0x4C 0x92) ≡ true
  pub reached_none : bits_ignored reset_file [] (write 1 0x5D 0x61) ≡ false
  pub kept : no_change reset_file first (write 4 0x65 0x62) ≡ true
  pub broadcast : no_change reset_file (first ++ (write 4 0x4C 0x0F ∷ [])) (write 5 0x65 0x62) ≡ false
  pub odd : odd_alias reset_file first (write 4 0x65 0x63) ≡ true
  pub odd_unticked : odd_alias reset_file [] (write 1 0x65 0x63) ≡ false
  pub odd_target : odd_alias reset_file first (write 4 0x5D 0x61) ≡ false
