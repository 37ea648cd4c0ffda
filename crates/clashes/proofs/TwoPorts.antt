-- Two ports of which something holds, by the mask of the ports of which it holds.
-- Assumes nothing.
use mathlib.Core.Path.{◌≡◌, sym, ◌∙◌}
use mathlib.Core.Bool.{Bool, true}
use Prim.Native.Nat.{ℕ, ◌<◌}
use native.Mathlib.Omega.{arith}
use Rattle.ports.specs.PortMasks.{port_mask, several_ports}
use Rattle.ports.proofs.PortMasks.{mask_bits, several_means_two}

pub record Two (holds : ℕ → Bool) : Type 0 where
  pub low : ℕ
  pub high : ℕ
  pub rising : low < high
  pub within : high < 4
  pub first : holds low ≡ true
  pub second : holds high ≡ true

module _ (holds : ℕ → Bool) where
  pub two_only : several_ports (port_mask holds) ≡ true → Two holds
  two_only e =
      let t = (several_means_two (port_mask holds)).only e in
      let bits = (mask_bits holds).bits in
      record {
        low = t.low;
        high = t.high;
        rising = t.rising;
        within = t.within;
        first = sym (bits t.low (omega (arith, t.rising, t.within))) ∙ t.first;
        second = sym (bits t.high t.within) ∙ t.second;
      }

  pub two_every : (low high : ℕ) → low < high → high < 4 → holds low ≡ true → holds high ≡ true
      → several_ports (port_mask holds) ≡ true
  two_every low high rising within first second =
      let bits = (mask_bits holds).bits in
      (several_means_two (port_mask holds)).every
      (record {
        low = low;
        high = high;
        rising = rising;
        within = within;
        first = bits low (omega arith) ∙ first;
        second = bits high within ∙ second;
      })
