-- Laws of the word in which the source gathers the four pixels of a RAW10 group.
-- Assumes nothing.
use mathlib.Core.Path.{◌≡◌, ap, ap₂, ◌∙◌}
use mathlib.Core.List.{List, [], ◌∷◌}
use Prim.Native.Nat.{ℕ, ◌+◌, ◌*◌, ◌/◌, ◌%◌, ◌<◌}
use native.Mathlib.Nat.{mod-eq_of_lt}
use native.Mathlib.Omega.{arith}
use Rattle.formats.specs.declared.Format.TheVariants.{Raw10}
use Rattle.unpacking.specs.Pixels.{unpack_group}
use Rattle.unpacking.specs.Words.{word, spread_pairs}

-- the numbers in a word, as the source takes them out
abbrev pub numbers_in : ℕ → List ℕ
numbers_in w = (w % 0x10000) ∷ (w / 0x10000 % 0x10000) ∷ (w / 0x100000000 % 0x10000) ∷ (w / 0x1000000000000 % 0x10000) ∷ []

-- what stands lowest in a word
lowest : (x rest : ℕ) → x < 0x10000 → (x + 0x10000 * rest) % 0x10000 ≡ x
lowest x rest h = omega arith

numbers_back : (a b c d : ℕ) → a < 0x10000 → b < 0x10000 → c < 0x10000 → d < 0x10000 → numbers_in (word a b c d) ≡ a ∷ b ∷ c ∷ d ∷ []
numbers_back a b c d ha hb hc hd =
    let all : word a b c d ≡ a + 0x10000 * (b + 0x10000 * (c + 0x10000 * d)) = omega arith in
    let from_second : word a b c d / 0x10000 ≡ b + 0x10000 * (c + 0x10000 * d) = omega arith in
    let from_third : word a b c d / 0x100000000 ≡ c + 0x10000 * d = omega arith in
    let from_fourth : word a b c d / 0x1000000000000 ≡ d = omega arith in
    cc
    (ap (λ (w : ℕ). w % 0x10000) all, lowest a (b + 0x10000 * (c + 0x10000 * d)) ha, lowest b (c + 0x10000 * d) hb, lowest c d hc, mod-eq_of_lt hd)

-- a word of sums
sums : (a b c d p q r s : ℕ) → 4 * word a b c d + word p q r s ≡ word (4 * a + p) (4 * b + q) (4 * c + r) (4 * d + s)
sums a b c d p q r s = omega arith

-- the pairs of a byte as the definition takes them, one after the other
pairs_of : (low : ℕ) → low < 256 → (low / 16 % 4 ≡ low / 4 / 4 % 4) × (low / 64 ≡ low / 4 / 4 / 4 % 4)
pairs_of low h = (omega arith, omega arith)

pixel_fits_lem : (upper pair : ℕ) → upper < 256 → pair < 4 → 4 * upper + pair < 0x10000
pixel_fits_lem upper pair h k = omega arith

-- the pixels of a group from the word in which the source gathers it: the upper bytes, and the low pairs spread to their places
pub gathered : (a b c d low : ℕ) → a < 256 → b < 256 → c < 256 → d < 256 → low < 256
    → numbers_in (4 * word a b c d + spread_pairs low) ≡ unpack_group Raw10 (a ∷ b ∷ c ∷ d ∷ low ∷ [])
unfolding unpack_group spread_pairs
gathered a b c d low ha hb hc hd hl =
    let pairs = pairs_of low hl in
    ap numbers_in (sums a b c d (low % 4) (low / 4 % 4) (low / 16 % 4) (low / 64))
    ∙ numbers_back (4 * a + low % 4) (4 * b + low / 4 % 4) (4 * c + low / 16 % 4) (4 * d + low / 64)
    (pixel_fits_lem a (low % 4) ha (omega arith)) (pixel_fits_lem b (low / 4 % 4) hb (omega arith))
    (pixel_fits_lem c (low / 16 % 4) hc (omega arith)) (pixel_fits_lem d (low / 64) hd (omega arith))
    ∙ ap₂ (λ (u v : ℕ). (4 * a + low % 4) ∷ (4 * b + low / 4 % 4) ∷ (4 * c + u) ∷ (4 * d + v) ∷ []) pairs.0 pairs.1
