-- `ports::are_several` meets its contract: the ones of four bits, counted and compared.
use mathlib.Core.Path.{◌≡◌}
use mathlib.Core.Bool.{Bool}
use Prim.Native.Nat.{ℕ, ◌<◌}
use lib.Dec.{eqb, eqb→eq}
use Rattle.std.specs.Prelude.{count_ones, bit_and}
use lib.Count.{ones}
use Rattle.laws.proofs.Tables.{all_below, below_at}
use Rattle.ports.specs.PortMasks.{port_count, several_ports}
use Rattle.ports.proofs.are_several.Goals as goal

same_count : ℕ → Bool
same_count mask = eqb (count_ones (bit_and mask 15)) (port_count mask)

same_ones : (mask : ℕ) → mask < 256 → count_ones (bit_and mask 15) ≡ port_count mask
unfolding all_below same_count ones
same_ones mask h = eqb→eq _ _ (below_at same_count 256 tt mask h)

pub returns : goal.returns
unfolding several_ports
returns c = rw (same_ones c.args.mask c.ranges.mask.fits)
