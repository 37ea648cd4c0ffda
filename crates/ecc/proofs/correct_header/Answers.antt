-- `ecc::correct_header` meets its contract: a header is right exactly where its syndrome is zero.
use mathlib.Core.Path.{◌≡◌, sym, ap, ◌∙◌}
use Prim.Native.Nat.{ℕ, ◌/◌, ◌%◌, ◌^◌}
use borrow.Author.Tests.{eq-eqb, ne_eqb}
use lib.Bits.{bit_xor}
use Rattle.ecc.specs.CheckBytes.{check_byte}
use Rattle.ecc.specs.Syndrome.{syndrome_of}
use Rattle.ecc.proofs.Linear.{right_syndrome}
use Rattle.ecc.proofs.Near.{correct_right, correct_wrong}
use Rattle.ecc.proofs.correct_header.Goals as goal

-- the code's difference is the syndrome
is_syndrome : (header check : ℕ) → check ≡ check_byte (header % 2 ^ 24) → bit_xor check (header / 2 ^ 24) ≡ syndrome_of header
unfolding syndrome_of
is_syndrome header check e = ap (λ (t : ℕ). bit_xor t (header / 2 ^ 24)) e

pub returns-then-syndrome-eq0 : goal.returns-then-syndrome-eq0
returns-then-syndrome-eq0 c =
    let h = c.args.header in
    sym (correct_right h (right_syndrome h ∙ eq-eqb _ 0 (sym (is_syndrome h _ c.check_byte.ensures) ∙ c.if-syndrome-eq0.true)))

pub correct_bit-requires : goal.correct_bit-requires
correct_bit-requires c = is_syndrome _ _ c.check_byte.ensures

pub returns : goal.returns
returns c =
    let h = c.args.header in
    let e = is_syndrome h _ c.check_byte.ensures in
    c.correct_bit.ensures ∙ sym (correct_wrong h (right_syndrome h ∙ ne_eqb _ 0 (λ z. c.if-syndrome-eq0.false (e ∙ z))))
