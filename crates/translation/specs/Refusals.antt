-- The refusals of the two questions, by their numbers in document 01.
-- Assumes nothing.
use Rattle.std.specs.Prelude.{ℕ}
use Rattle.translation.specs.declared.WriteRefusal.{WriteRefusal}
use Rattle.translation.specs.declared.ReadRefusal.{ReadRefusal}

-- refusal 2: "address above 0x7F"
abbrev pub write_refusal_number : WriteRefusal → ℕ
write_refusal_number WriteRefusal.AddressAbove7F = 2

-- refusal 2, and 9: "with two or more it is unclear"
abbrev pub read_refusal_number : ReadRefusal → ℕ
read_refusal_number ReadRefusal.AddressAbove7F = 2
read_refusal_number ReadRefusal.Unclear = 9
