-- Laws of the numbers' texts: the decimal digits by the tests of the source, and how many digits there are.
-- Assumes nothing.
use mathlib.Core.Path.{◌≡◌, refl}
use mathlib.Core.Bool.{Bool, true, false, cond}
use mathlib.Core.List.{List, [], ◌∷◌, ◌++◌}
use Prim.Native.Nat.{ℕ, zero, suc, ◌+◌, ◌-◌, ◌*◌, ◌/◌, ◌%◌, ◌<◌, ◌≤◌}
use native.Mathlib.Numerals.{sub-one}
use native.Mathlib.Omega.{arith}
use borrow.Author.Tests.{lt-ltb, le-ltb}
use lib.Dec.{ltb}
use lib.ListN.{length, length-append}
use Rattle.buffers.specs.Numerals.{hex_byte, hex_bytes, decimal_from}

-- no digit may be put
pub decimal_none : (k n : ℕ) → k ≡ 0 → decimal_from k n ≡ []
unfolding decimal_from
decimal_none zero n e = refl
decimal_none (suc k) n e = absurd (omega arith)

-- one digit is enough
pub decimal_one : (k n : ℕ) → (k ≡ 0 → ⊥) → n < 10 → decimal_from k n ≡ (48 + n % 10) ∷ []
unfolding decimal_from
decimal_one zero n h l = absurd (h refl)
decimal_one (suc k) n h l = simp (lt-ltb n 10 l)

-- the last digit stands after the others
pub decimal_more : (k n : ℕ) → (k ≡ 0 → ⊥) → 10 ≤ n → decimal_from k n ≡ decimal_from (k - 1) (n / 10) ++ ((48 + n % 10) ∷ [])
unfolding decimal_from
decimal_more zero n h l = absurd (h refl)
decimal_more (suc k) n h l = rw (sub-one (suc k)) (simp (le-ltb n 10 l))

-- a number's last k digits are at most k
pub digits_most : (k n : ℕ) → length (decimal_from k n) ≤ k
unfolding decimal_from
digits_most zero n = omega arith
digits_most (suc k) n = go (ltb n 10) (digits_most k (n / 10))
  where
    go : (b : Bool) → length (decimal_from k (n / 10)) ≤ k → length (cond b [] (decimal_from k (n / 10)) ++ ((48 + n % 10) ∷ [])) ≤ suc k
    go true h = omega arith
    go false h = omega (arith, length-append (decimal_from k (n / 10)) ((48 + n % 10) ∷ []))

-- bytes have two digits each
pub hex_most : (bytes : List ℕ) → length (hex_bytes bytes) ≡ 2 * length bytes
unfolding hex_byte
hex_most [] = refl
hex_most (byte ∷ bytes) = omega (arith, hex_most bytes)
