-- Laws of the register map, each by one test that is computed over the whole table.
-- Assumes nothing.
use mathlib.Core.Path.{◌≡◌, refl}
use mathlib.Core.Bool.{Bool, true, false, cond, ◌&&◌}
use mathlib.Core.List.{List, [], ◌∷◌}
use Prim.Native.Nat.{ℕ, ◌+◌, ◌*◌, ◌-◌, ◌/◌, ◌%◌, ◌≤◌, ◌<◌}
use borrow.Author.Tests.{lt-leb, leb-true, ltb-true, ltb-false}
use native.Mathlib.Omega.{arith}
use lib.Dec.{T, eqb, ltb, leb, eqb→eq, ltb→lt}
use lib.Bits.{bit_and}
use Rattle.laws.proofs.Absurd.{zero_not_one}
use Rattle.laws.proofs.Bools.{both, never}
use Rattle.laws.proofs.Tables.{all_below, below_at}
use Rattle.registers.specs.RegisterMap.{Row, rows, row_in, reset_of, mask_of, per_port}
use Rattle.registers.specs.RegisterMap.{ResetsInsideMasks, RAW10_ID, RAW12_ID}

-- The registers of all ports as one row of 1,024: a test at each.
at_each : (ℕ → ℕ → Bool) → ℕ → Bool
at_each test index = test (index / 256) (index % 256)

-- a test that passes at all of them passes at every port and offset
module _ (test : ℕ → ℕ → Bool) (passed : T (all_below (at_each test) 1024)) where
  at_every : (port offset : ℕ) → port < 4 → offset < 256 → T (test port offset)
  unfolding at_each
  at_every port offset hp ho =
      let p : (256 * port + offset) / 256 ≡ port = omega arith in
      let o : (256 * port + offset) % 256 ≡ offset = omega arith in
      rw (p, o) at (below_at (at_each test) 1024 passed (256 * port + offset) (omega arith))

inside_mask : ℕ → ℕ → Bool
inside_mask port offset = eqb (bit_and (reset_of port offset) (255 - mask_of offset)) 0

pub resets_inside_masks : ResetsInsideMasks
unfolding all_below at_each inside_mask reset_of mask_of row_in rows
resets_inside_masks port offset hp ho = eqb→eq _ 0 (at_every inside_mask tt port offset hp ho)

-- every reset value is a byte
reset_byte : ℕ → ℕ → Bool
reset_byte port offset = ltb (reset_of port offset) 256

pub reset_byte_lem : (port offset : ℕ) → port < 4 → offset < 256 → reset_of port offset < 256
unfolding all_below at_each reset_byte reset_of row_in rows
reset_byte_lem port offset hp ho = ltb→lt _ 256 (at_every reset_byte tt port offset hp ho)

-- of RAW10_ID and RAW12_ID the port's number stands in bits 7 and 6, and no other reset value depends on the port
abbrev pub port_bits : ℕ → ℕ → ℕ
port_bits port offset = cond (leb RAW10_ID offset && leb offset RAW12_ID) (64 * port) 0

reset_by_port : ℕ → ℕ → Bool
reset_by_port port offset = eqb (reset_of port offset) (reset_of 0 offset + port_bits port offset)

pub reset_by_port_lem : (port offset : ℕ) → port < 4 → offset < 256
    → reset_of port offset ≡ reset_of 0 offset + port_bits port offset
unfolding all_below at_each reset_by_port reset_of row_in rows
reset_by_port_lem port offset hp ho = eqb→eq _ _ (at_every reset_by_port tt port offset hp ho)

-- every offset of the table is a byte, so a per-port offset is
lasts_small : List Row → Bool
lasts_small [] = true
lasts_small (r ∷ rs) = leb r.last 255 && lasts_small rs

past_rows : (rs : List Row) (offset : ℕ) → lasts_small rs ≡ true → 256 ≤ offset → (row_in rs offset).per_port ≡ false
unfolding lasts_small row_in
past_rows [] offset t h = refl
past_rows (r ∷ rs) offset t h =
    let small = both (leb r.last 255) (lasts_small rs) t in
    let past : r.last < offset = omega (arith, leb-true r.last 255 small.0) in
    rw (lt-leb offset r.last past, never (leb r.first offset)) (past_rows rs offset small.1 h)

pub per_port_small : (offset : ℕ) → per_port offset ≡ true → offset < 256
unfolding per_port rows lasts_small
per_port_small offset e = go (ltb offset 256) refl
  where
    go : (b : Bool) → ltb offset 256 ≡ b → offset < 256
    go true h = ltb-true offset 256 h
    go false h = let z = past_rows rows offset refl (ltb-false offset 256 h) in zero_not_one (cc)
