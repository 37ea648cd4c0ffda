-- A window of four words: how it slides by a word, since the word that leaves it may be added to the next four instead.
-- Assumes nothing.
use mathlib.Core.Path.{◌≡◌, sym, ap, ap₂, ◌∙◌}
use Prim.Native.Nat.{ℕ, ◌*◌, ◌/◌, ◌%◌, ◌^◌, ◌<◌}
use native.Mathlib.Nat.{mod-lt}
use lib.Bits.{bit_xor, xor_comm, xor_zero_r}
use lib.Pow.{pow_pos}
use Rattle.laws.proofs.Bitwise.{xor_assoc, xor_swap}
use Rattle.laws.proofs.Tables.{all_below}
use Rattle.crc.specs.Checksum.{crc_bit}
use Rattle.crc.specs.WideRegister.{shifts, after_word}
use Rattle.crc.proofs.Linear.{same, both, by_powers}
use Rattle.crc.proofs.Quotient.{move, divided}
use Rattle.crc.proofs.Shifts.{shifts_linear, shifts_add, from_top}

-- 256 shifts of a register of 16 bits: the polynomial to the power 16 has bits 0, 64, 176 and 256
pub sparse : (v : ℕ) → v < 2 ^ 16 → bit_xor (bit_xor (shifts 192 v) (shifts 80 v)) v ≡ shifts 256 v
unfolding shifts crc_bit all_below
sparse = by_powers (both (both (move 192) (move 80)) same) (move 256) 16 tt

-- the register after three words
abbrev through : ℕ → ℕ → ℕ → ℕ → ℕ
through c x y z = after_word (after_word (after_word c x) y) z

after_sum : (c d x y : ℕ) → after_word (bit_xor c d) (bit_xor x y) ≡ bit_xor (after_word c x) (after_word d y)
after_sum c d x y = ap (shifts 64) (xor_swap c d x y) ∙ shifts_linear 64 (bit_xor c x) (bit_xor d y)

through_sum : (c d x x' y y' z z' : ℕ)
    → through (bit_xor c d) (bit_xor x x') (bit_xor y y') (bit_xor z z') ≡ bit_xor (through c x y z) (through d x' y' z')
through_sum c d x x' y y' z z' = simp after_sum

-- what the word that leaves adds to the next four stands for it
leaving : (a : ℕ) → a < 2 ^ 64 → through (shifts 64 a) (a * 2 ^ 48 % 2 ^ 64) (a / 2 ^ 16) a ≡ shifts 256 (shifts 64 a)
leaving a h =
    let s = shifts 64 a in
    let m = a * 2 ^ 48 % 2 ^ 64 in
    let small : s < 2 ^ 16 = rw (sym (divided a h)) (mod-lt _ (pow_pos 16)) in
    ap (λ (t : ℕ). after_word (after_word t (a / 2 ^ 16)) a) (shifts_linear 64 s m)
    ∙ ap (λ (t : ℕ). after_word (shifts 64 t) a)
    (xor_assoc (shifts 64 s) (shifts 64 m) (a / 2 ^ 16) ∙ ap (bit_xor (shifts 64 s)) (sym (from_top 48 16 a)))
    ∙ ap (λ (t : ℕ). after_word t a)
    (shifts_linear 64 (shifts 64 s) (shifts 16 a) ∙ ap₂ bit_xor (sym (shifts_add 64 64 s)) (sym (shifts_add 16 64 a) ∙ shifts_add 64 16 a))
    ∙ shifts_linear 64 (bit_xor (shifts 128 s) (shifts 16 s)) a
    ∙ ap (λ (t : ℕ). bit_xor t s)
    (shifts_linear 64 (shifts 128 s) (shifts 16 s) ∙ ap₂ bit_xor (sym (shifts_add 128 64 s)) (sym (shifts_add 16 64 s)))
    ∙ sparse s small

pub slid : (a b c d x : ℕ) → a < 2 ^ 64
    → through (shifts 64 (bit_xor b a)) (bit_xor c (a * 2 ^ 48 % 2 ^ 64)) (bit_xor d (a / 2 ^ 16)) (bit_xor x a)
    ≡ after_word (through (shifts 64 a) b c d) x
slid a b c d x h =
    let s = shifts 64 a in
    let four : shifts 256 s ≡ shifts 64 (shifts 64 (shifts 64 (shifts 64 s))) =
    shifts_add 192 64 s ∙ ap (shifts 64) (shifts_add 128 64 s ∙ ap (shifts 64) (shifts_add 64 64 s)) in
    ap (λ (t : ℕ). through t (bit_xor c (a * 2 ^ 48 % 2 ^ 64)) (bit_xor d (a / 2 ^ 16)) (bit_xor x a)) (shifts_linear 64 b a)
    ∙ through_sum (shifts 64 b) s c (a * 2 ^ 48 % 2 ^ 64) d (a / 2 ^ 16) x a
    ∙ ap (bit_xor (through (shifts 64 b) c d x)) (leaving a h ∙ four)
    ∙ sym (ap (λ (t : ℕ). through t c d x) (ap (shifts 64) (xor_comm s b) ∙ shifts_linear 64 b s)
    ∙ (simp xor_zero_r at (through_sum (shifts 64 b) (shifts 64 s) c 0 d 0 x 0)))
