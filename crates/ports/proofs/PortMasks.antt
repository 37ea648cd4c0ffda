-- The laws of specs/PortMasks.antt, by the cases of four ports.
-- Assumes nothing.
use mathlib.Core.Path.{◌≡◌, refl, sym, ◌∙◌}
use mathlib.Core.Bool.{Bool, true, false, cond}
use Prim.Native.Nat.{ℕ, zero, suc, ◌+◌, ◌*◌, ◌/◌, ◌^◌, ◌≤◌, ◌<◌}
use native.Mathlib.Omega.{arith}
use borrow.Author.Tests.{le-leb, leb-true, eqb-true}
use lib.Dec.{eqb, lit<, lit≤}
use Rattle.laws.specs.Bits.{digit, bit}
use Rattle.laws.proofs.Absurd.{zero_not_one}
use Rattle.laws.proofs.Bits.{digit_case, bit_above}
use Rattle.ports.specs.PortMasks.{mask_of_four, port_mask, port_count, several_ports}
use Rattle.ports.specs.PortMasks.{MaskBits, EmptyMask, TwoPorts, SeveralMeansTwo, PortMaskLaws}

-- the digits of a number of four bits
module _ (a b c d : ℕ) (ha : a ≤ 1) (hb : b ≤ 1) (hc : c ≤ 1) (hd : d ≤ 1) where
  digits_within : a + 2 * b + 4 * c + 8 * d < 16
  digits_within = omega arith

  digit0 : digit 0 (a + 2 * b + 4 * c + 8 * d) ≡ a
  digit0 = omega arith

  digit1 : digit 1 (a + 2 * b + 4 * c + 8 * d) ≡ b
  digit1 = omega arith

  digit2 : digit 2 (a + 2 * b + 4 * c + 8 * d) ≡ c
  digit2 = omega arith

  digit3 : digit 3 (a + 2 * b + 4 * c + 8 * d) ≡ d
  digit3 = omega arith

-- an answer as a digit, and with its weight
answer : Bool → ℕ
answer b = cond b 1 0

answer_small : (b : Bool) → answer b ≤ 1
unfolding answer
answer_small true = lit≤ tt
answer_small false = lit≤ tt

weighed : (b : Bool) (weight : ℕ) → cond b weight 0 ≡ weight * answer b
unfolding answer
weighed true weight = omega arith
weighed false weight = omega arith

answered : (b : Bool) → eqb (answer b) 1 ≡ b
unfolding answer
answered true = refl
answered false = refl

module _ (holds : ℕ → Bool) where
  by_digits : port_mask holds ≡ answer (holds 0) + 2 * answer (holds 1) + 4 * answer (holds 2) + 8 * answer (holds 3)
  unfolding port_mask answer
  by_digits = rw (weighed (holds 1) 2, weighed (holds 2) 4, weighed (holds 3) 8)

  pub mask_bits : MaskBits holds
  unfolding bit
  mask_bits =
      record { within = rw by_digits (digits_within _ _ _ _ (small 0) (small 1) (small 2) (small 3)); bits = at }
    where
      small : (port : ℕ) → answer (holds port) ≤ 1
      small port = answer_small (holds port)

      at : (port : ℕ) → port < 4 → bit port (port_mask holds) ≡ holds port
      at zero h = rw (by_digits, digit0 _ _ _ _ (small 0) (small 1) (small 2) (small 3)) (answered (holds 0))
      at (suc zero) h = rw (by_digits, digit1 _ _ _ _ (small 0) (small 1) (small 2) (small 3)) (answered (holds 1))
      at (suc (suc zero)) h =
          rw (by_digits, digit2 _ _ _ _ (small 0) (small 1) (small 2) (small 3)) (answered (holds 2))
      at (suc (suc (suc zero))) h =
          rw (by_digits, digit3 _ _ _ _ (small 0) (small 1) (small 2) (small 3)) (answered (holds 3))
      at (suc (suc (suc (suc port)))) h = absurd (omega arith)

  -- a mask that was worked out from four answers
  pub mask_by : {a b c d : Bool} {mask : ℕ} → a ≡ holds 0 → b ≡ holds 1 → c ≡ holds 2 → d ≡ holds 3
      → mask ≡ mask_of_four a b c d → mask ≡ port_mask holds
  unfolding port_mask
  mask_by e0 e1 e2 e3 e = rw (e, e0, e1, e2, e3)

  -- what holds of the same ports has the same mask
  pub same_mask : (also : ℕ → Bool) → ((port : ℕ) → holds port ≡ also port) → port_mask holds ≡ port_mask also
  unfolding port_mask
  same_mask also e = rw (e 0, e 1, e 2, e 3)

  pub empty_mask : EmptyMask holds
  unfolding port_mask
  empty_mask =
      record {
        only = λ e port h. sym (mask_bits.bits port h) ∙ rw e (none_set port);
        every = λ h. rw (h 0 (lit< tt), h 1 (lit< tt), h 2 (lit< tt), h 3 (lit< tt));
      }
    where
      none_set : (port : ℕ) → bit port 0 ≡ false
      none_set port = bit_above 0 port 0 (lit< tt) (omega arith)

-- the digit of a bit that is set, and of one that is not
bit_set : (k x : ℕ) → bit k x ≡ true → digit k x ≡ 1
unfolding bit
bit_set k x e = eqb-true _ _ e

bit_clear : (k x : ℕ) → bit k x ≡ false → digit k x ≡ 0
unfolding bit
bit_clear k x e = digit_case (λ d. (eqb d 1 ≡ false) → d ≡ 0) (λ h. refl) (λ h. zero_not_one (cc)) (x / 2 ^ k) e

module _ (mask : ℕ) where
  two : (low high : ℕ) → low < high → high < 4 → bit low mask ≡ true → bit high mask ≡ true → TwoPorts mask
  two low high rising within first second =
      record { low = low; high = high; rising = rising; within = within; first = first; second = second }

  find_two : (a b c d : Bool) → bit 0 mask ≡ a → bit 1 mask ≡ b → bit 2 mask ≡ c → bit 3 mask ≡ d
      → 2 ≤ port_count mask → TwoPorts mask
  find_two true true c d e0 e1 e2 e3 h = two 0 1 (lit< tt) (lit< tt) e0 e1
  find_two true false true d e0 e1 e2 e3 h = two 0 2 (lit< tt) (lit< tt) e0 e2
  find_two true false false true e0 e1 e2 e3 h = two 0 3 (lit< tt) (lit< tt) e0 e3
  find_two false true true d e0 e1 e2 e3 h = two 1 2 (lit< tt) (lit< tt) e1 e2
  find_two false true false true e0 e1 e2 e3 h = two 1 3 (lit< tt) (lit< tt) e1 e3
  find_two false false true true e0 e1 e2 e3 h = two 2 3 (lit< tt) (lit< tt) e2 e3
  find_two a false false false e0 e1 e2 e3 h =
      absurd (omega (arith, bit_clear 1 mask e1, bit_clear 2 mask e2, bit_clear 3 mask e3))
  find_two false true false false e0 e1 e2 e3 h =
      absurd (omega (arith, bit_clear 0 mask e0, bit_clear 2 mask e2, bit_clear 3 mask e3))
  find_two false false true false e0 e1 e2 e3 h =
      absurd (omega (arith, bit_clear 0 mask e0, bit_clear 1 mask e1, bit_clear 3 mask e3))
  find_two false false false true e0 e1 e2 e3 h =
      absurd (omega (arith, bit_clear 0 mask e0, bit_clear 1 mask e1, bit_clear 2 mask e2))

  -- two digits of the four
  two_digits_lem : (low high : ℕ) → low < high → high < 4 → digit low mask + digit high mask ≤ port_count mask
  two_digits_lem zero (suc zero) r w = omega arith
  two_digits_lem zero (suc (suc zero)) r w = omega arith
  two_digits_lem zero (suc (suc (suc zero))) r w = omega arith
  two_digits_lem (suc zero) (suc (suc zero)) r w = omega arith
  two_digits_lem (suc zero) (suc (suc (suc zero))) r w = omega arith
  two_digits_lem (suc (suc zero)) (suc (suc (suc zero))) r w = omega arith
  two_digits_lem low zero r w = absurd (omega arith)
  two_digits_lem (suc low) (suc zero) r w = absurd (omega arith)
  two_digits_lem (suc (suc low)) (suc (suc zero)) r w = absurd (omega arith)
  two_digits_lem (suc (suc (suc low))) (suc (suc (suc zero))) r w = absurd (omega arith)
  two_digits_lem low (suc (suc (suc (suc high)))) r w = absurd (omega arith)

  pub several_means_two : SeveralMeansTwo mask
  unfolding several_ports
  several_means_two =
      record {
        only = λ e. find_two _ _ _ _ refl refl refl refl (leb-true 2 (port_count mask) e);
        every = λ t. le-leb 2 (port_count mask)
            (omega (
              arith,
              two_digits_lem t.low t.high t.rising t.within,
              bit_set t.low mask t.first,
              bit_set t.high mask t.second,
            ));
      }

pub port_mask_laws : PortMaskLaws
port_mask_laws = (λ holds. (mask_bits holds, empty_mask holds), several_means_two)
