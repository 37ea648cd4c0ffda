-- `unpacking::groups::spread_pairs` meets its contract, by one test that is computed for every byte.
use mathlib.Core.Bool.{Bool, ◌&&◌}
use Prim.Native.Nat.{ℕ, ◌*◌, ◌^◌}
use native.Mathlib.Omega.{arith}
use borrow.Author.Tests.{eqb-true, ltb-true}
use lib.Bits.{bit_and}
use lib.Dec.{eqb, ltb}
use Rattle.laws.proofs.Bools.{both}
use Rattle.laws.proofs.Tables.{all_below, true_below}
use Rattle.unpacking.specs.Words.{spread_pairs}
use Rattle.unpacking.proofs.groups.spread_pairs.Goals as goal

-- the rule at one byte
right : ℕ → Bool
right low = let spread = bit_and (low * 0x40010004001) 0x3000300030003 in eqb spread (spread_pairs low) && ltb spread (2 ^ 50)

pub returns : goal.returns
unfolding all_below right spread_pairs
returns c =
    let low = c.args.low in
    let spread = bit_and (low * 0x40010004001) 0x3000300030003 in
    let holds = both (eqb spread (spread_pairs low)) (ltb spread (2 ^ 50)) (true_below right 256 tt low (omega arith)) in
    (eqb-true spread (spread_pairs low) holds.0, ltb-true spread (2 ^ 50) holds.1)
