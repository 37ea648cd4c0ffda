-- 64 shifts at once: a division by the polynomial, by the powers of its terms.
-- Assumes nothing.
use mathlib.Core.Path.{◌≡◌}
use mathlib.Core.List.{List, [], ◌∷◌}
use Prim.Native.Nat.{ℕ, ◌*◌, ◌/◌, ◌%◌, ◌^◌, ◌<◌}
use lib.Bits.{bit_xor}
use Rattle.laws.proofs.Tables.{all_below}
use Rattle.crc.specs.Checksum.{crc_bit}
use Rattle.crc.specs.WideRegister.{shifts}
use Rattle.crc.proofs.Linear.{Linear, same, both, after, down, low, up, by_powers}
use Rattle.crc.proofs.Shifts.{shifts_linear}

-- sum, and a word moved up by each of a list of counts
abbrev added : ℕ → ℕ → List ℕ → ℕ
added x sum [] = sum
added x sum (k ∷ ks) = added x (bit_xor sum (x * 2 ^ k % 2 ^ 64)) ks

abbrev times : List ℕ → ℕ → ℕ
times ks x = added x x ks

-- the quotient by 1 + s is the product with 1 + s, 1 + s ^ 2, 1 + s ^ 4 and 1 + s ^ 8, where s has bits 4, 11 and 16
abbrev quotient : ℕ → ℕ
quotient x = times (32 ∷ []) (times (16 ∷ 44 ∷ []) (times (8 ∷ 22 ∷ 32 ∷ []) (times (4 ∷ 11 ∷ 16 ∷ []) x)))

-- what the product of a quotient with s has above 64 bits
abbrev above : ℕ → ℕ
above q = bit_xor (bit_xor (q / 2 ^ 60) (q / 2 ^ 53)) (q / 2 ^ 48) % 2 ^ 16

times_linear : (ks : List ℕ) → Linear (times ks)
times_linear ks = go ks same
  where
    go : (ks : List ℕ) {f : ℕ → ℕ} → Linear f → Linear (λ x. added x (f x) ks)
    go [] l = l
    go (k ∷ ks) l = go ks (both l (after (low 64) (up k)))

quotient_linear : Linear quotient
quotient_linear =
    after (times_linear (32 ∷ []))
    (after (times_linear (16 ∷ 44 ∷ [])) (after (times_linear (8 ∷ 22 ∷ 32 ∷ [])) (times_linear (4 ∷ 11 ∷ 16 ∷ []))))

above_linear : Linear above
above_linear = after (low 16) (both (both (down 60) (down 53)) (down 48))

pub move : (n : ℕ) → Linear (shifts n)
move n = record { splits = shifts_linear n }

pub divided : (x : ℕ) → x < 2 ^ 64 → above (quotient x) ≡ shifts 64 x
unfolding shifts crc_bit all_below
divided = by_powers (after above_linear quotient_linear) (move 64) 64 tt
