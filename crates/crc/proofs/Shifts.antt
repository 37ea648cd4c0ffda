-- The shifts of the register: data may as well be added to the register before it moves, the moves are linear, and they add up.
-- Assumes nothing.
use mathlib.Core.Path.{◌≡◌, refl, sym, ap, ap₂, ◌∙◌}
use mathlib.Core.List.{List, [], ◌∷◌, ◌++◌}
use Prim.Native.Nat.{ℕ, zero, suc, ◌+◌, ◌-◌, ◌*◌, ◌/◌, ◌%◌, ◌^◌, ◌≤◌, ◌<◌}
use native.Mathlib.Nat.{mod-lt, mul-one, zero-add, suc-add}
use native.Mathlib.Omega.{arith}
use lib.Arith.{lt-one}
use lib.Bits.{bit_xor, xor_shr, xor_mod, xor_comm, xor_zero_r, xor_shifted, shifted_half, shifted_even}
use lib.ListN.{length, take, drop}
use lib.Pow.{pow_pos, split, shr-shr, shl-shr}
use lib.Seq.{take-add, take_all}
use Rattle.laws.proofs.Bits.{digit_case}
use Rattle.laws.proofs.Bitwise.{xor_assoc, xor_swap, parity_add}
use Rattle.crc.specs.Checksum.{polynomial, crc_bit, crc_bits, crc_from}
use Rattle.crc.specs.WideRegister.{shifts, SumOfFirst}

-- one move of the register
abbrev shift : ℕ → ℕ
shift register = crc_bit register 0

-- a data bit, with the rest of its byte, is added to the register first
fed : (c b : ℕ) → shift (bit_xor c b) ≡ bit_xor (crc_bit c (b % 2)) (b / 2)
unfolding crc_bit
fed c b =
    let p = polynomial * ((c + b % 2) % 2) in
    let z : (bit_xor c b + 0) % 2 ≡ bit_xor c b % 2 = omega arith in
    let e : (c + b) % 2 ≡ (c + b % 2) % 2 = omega arith in
    ap₂ bit_xor (xor_shr c b 1) (ap (λ (t : ℕ). polynomial * t) (z ∙ xor_mod c b 1 ∙ sym (parity_add c b) ∙ e))
    ∙ xor_assoc (c / 2) (b / 2) p ∙ ap (bit_xor (c / 2)) (xor_comm (b / 2) p) ∙ sym (xor_assoc (c / 2) p (b / 2))

pub all_fed : (n c b : ℕ) → b < 2 ^ n → crc_bits n c b ≡ shifts n (bit_xor c b)
unfolding crc_bits shifts
all_fed zero c b h = sym (ap (bit_xor c) (lt-one h) ∙ xor_zero_r c)
all_fed (suc n) c b h = all_fed n (crc_bit c (b % 2)) (b / 2) (omega arith) ∙ ap (shifts n) (sym (fed c b))

-- moving is linear
shift_linear : (a b : ℕ) → shift (bit_xor a b) ≡ bit_xor (shift a) (shift b)
unfolding crc_bit
shift_linear a b =
    let z : (bit_xor a b + 0) % 2 ≡ bit_xor a b % 2 = omega arith in
    let za : (a + 0) % 2 ≡ a % 2 = omega arith in
    let zb : (b + 0) % 2 ≡ b % 2 = omega arith in
    ap₂ bit_xor (xor_shr a b 1) (ap (λ (t : ℕ). polynomial * t) (z ∙ xor_mod a b 1) ∙ added)
    ∙ xor_swap (a / 2) (b / 2) (polynomial * (a % 2)) (polynomial * (b % 2))
    ∙ ap₂ (λ (s t : ℕ). bit_xor (bit_xor (a / 2) (polynomial * s)) (bit_xor (b / 2) (polynomial * t))) (sym za) (sym zb)
  where
    added : polynomial * bit_xor (a % 2) (b % 2) ≡ bit_xor (polynomial * (a % 2)) (polynomial * (b % 2))
    added =
        digit_case (λ x. polynomial * bit_xor x (b % 2) ≡ bit_xor (polynomial * x) (polynomial * (b % 2))) refl
        (digit_case (λ y. polynomial * bit_xor 1 y ≡ bit_xor (polynomial * 1) (polynomial * y)) refl refl b) a

pub shifts_linear : (n a b : ℕ) → shifts n (bit_xor a b) ≡ bit_xor (shifts n a) (shifts n b)
unfolding shifts
shifts_linear zero a b = refl
shifts_linear (suc n) a b = ap (shifts n) (shift_linear a b) ∙ shifts_linear n (shift a) (shift b)

-- n moves take a multiple of 2 ^ n down
pub taken_down : (n a : ℕ) → shifts n (a * 2 ^ n) ≡ a
unfolding shifts crc_bit
taken_down zero a = mul-one a
taken_down (suc n) a =
    let z : (a * 2 ^ suc n + 0) % 2 ≡ a * 2 ^ suc n % 2 = omega arith in
    ap (shifts n) (ap₂ (λ (x y : ℕ). bit_xor x (polynomial * y)) (shifted_half a n) (z ∙ shifted_even a n) ∙ xor_zero_r (a * 2 ^ n)) ∙ taken_down n a

-- moves add up
pub shifts_add : (m n x : ℕ) → shifts (m + n) x ≡ shifts n (shifts m x)
unfolding shifts
shifts_add zero n x = ap (λ (t : ℕ). shifts t x) (zero-add n)
shifts_add (suc m) n x = ap (λ (t : ℕ). shifts t x) (suc-add m n) ∙ shifts_add m n (shift x)

-- n moves at once: those of the n low digits, and the rest taken down
at_once : (n c : ℕ) → shifts n c ≡ bit_xor (shifts n (c % 2 ^ n)) (c / 2 ^ n)
at_once n c =
    ap (shifts n) (sym (xor_shifted (c / 2 ^ n) n (c % 2 ^ n) (mod-lt c (pow_pos n)) ∙ split c n))
    ∙ shifts_linear n (c / 2 ^ n * 2 ^ n) (c % 2 ^ n)
    ∙ ap (λ (t : ℕ). bit_xor t (shifts n (c % 2 ^ n))) (taken_down n (c / 2 ^ n))
    ∙ xor_comm (c / 2 ^ n) (shifts n (c % 2 ^ n))

-- k moves by j + k: the k low digits at the top of a register of j + k digits, and the rest taken down
pub from_top : (j k c : ℕ) → shifts k c ≡ bit_xor (shifts (j + k) (c * 2 ^ j % 2 ^ (j + k))) (c / 2 ^ k)
from_top j k c =
    sym (shifts_add j k (c * 2 ^ j) ∙ ap (shifts k) (taken_down j c))
    ∙ at_once (j + k) (c * 2 ^ j)
    ∙ ap (bit_xor (shifts (j + k) (c * 2 ^ j % 2 ^ (j + k)))) (sym (shr-shr (c * 2 ^ j) j k) ∙ ap (λ (t : ℕ). t / 2 ^ k) (shl-shr c j))

-- bytes after bytes
crc_append : (c : ℕ) (a b : List ℕ) → crc_from c (a ++ b) ≡ crc_from (crc_from c a) b
unfolding crc_from
crc_append c [] b = refl
crc_append c (x ∷ a) b = crc_append (crc_bits 8 c x) a b

-- n bytes more of a list
pub crc_more : (c : ℕ) (s : List ℕ) (i n : ℕ) {sum : ℕ} → sum ≡ crc_from c (take i s)
    → crc_from sum (take n (drop i s)) ≡ crc_from c (take (i + n) s)
crc_more c s i n e =
    ap (λ (t : ℕ). crc_from t (take n (drop i s))) e ∙ sym (ap (crc_from c) (take-add i n s) ∙ crc_append c (take i s) (take n (drop i s)))

-- all that is left of a list
pub crc_rest : {c i sum : ℕ} {s : List ℕ} → SumOfFirst c s i sum → crc_from sum (take (length s - i) (drop i s)) ≡ crc_from c s
crc_rest {c} {i} {sum} {s} f =
    let all : length s ≤ i + (length s - i) = omega arith in
    crc_more c s i (length s - i) f.right ∙ ap (crc_from c) (take_all (i + (length s - i)) s all)
