-- A set of ports as a mask of four bits: bit p is set where port p is in the set.
-- Assumes nothing.
use Rattle.std.specs.Prelude.{◌≡◌, Bool, true, false, cond, ℕ, ◌+◌, ◌<◌, eqb, leb}
use Rattle.laws.specs.Bits.{digit, bit}

-- the mask, by whether each of the four ports is in the set
abbrev pub mask_of_four : Bool → Bool → Bool → Bool → ℕ
mask_of_four port0 port1 port2 port3 = cond port0 1 0 + cond port1 2 0 + cond port2 4 0 + cond port3 8 0

-- the mask of one port; there is no port above 3
abbrev pub mask_of_port : ℕ → ℕ
mask_of_port port = mask_of_four (eqb port 0) (eqb port 1) (eqb port 2) (eqb port 3)

-- the ports of which something holds
unfoldable pub port_mask : (ℕ → Bool) → ℕ
port_mask holds = mask_of_four (holds 0) (holds 1) (holds 2) (holds 3)

-- how many ports are in a mask, and whether two or more are
abbrev pub port_count : ℕ → ℕ
port_count mask = digit 0 mask + digit 1 mask + digit 2 mask + digit 3 mask

unfoldable pub several_ports : ℕ → Bool
several_ports mask = leb 2 (port_count mask)

-- A bit of the mask is set exactly where it holds of the port, and the mask has no other bits.
pub record MaskBits (holds : ℕ → Bool) : Type 0 where
  pub within : port_mask holds < 16
  pub bits : (port : ℕ) → port < 4 → bit port (port_mask holds) ≡ holds port

-- The mask is 0 exactly where it holds of no port.
pub record EmptyMask (holds : ℕ → Bool) : Type 0 where
  pub only : port_mask holds ≡ 0 → (port : ℕ) → port < 4 → holds port ≡ false
  pub every : ((port : ℕ) → port < 4 → holds port ≡ false) → port_mask holds ≡ 0

-- two ports of a mask
pub record TwoPorts (mask : ℕ) : Type 0 where
  pub low : ℕ
  pub high : ℕ
  pub rising : low < high
  pub within : high < 4
  pub first : bit low mask ≡ true
  pub second : bit high mask ≡ true

-- A mask has two or more ports exactly where there are two ports of it.
pub record SeveralMeansTwo (mask : ℕ) : Type 0 where
  pub only : several_ports mask ≡ true → TwoPorts mask
  pub every : TwoPorts mask → several_ports mask ≡ true

abbrev pub PortMaskLaws : Type 0
PortMaskLaws =
    ((holds : ℕ → Bool) → MaskBits holds × EmptyMask holds) × ((mask : ℕ) → SeveralMeansTwo mask)
