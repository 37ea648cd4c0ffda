-- A wide window: the first 32 words of a list, which slides by a word since the one that leaves may be added to three later ones instead.
-- Assumes nothing.
use mathlib.Core.Path.{◌≡◌, refl, sym, ap, ap₂, ◌∙◌}
use mathlib.Core.List.{List, [], ◌∷◌, ◌++◌}
use Prim.Native.Nat.{ℕ, zero, suc, ◌+◌, ◌*◌, ◌^◌, ◌≤◌, ◌<◌}
use native.Mathlib.Nat.{mod-lt, add_comm}
use native.Mathlib.Numerals.{add-one}
use native.Mathlib.Omega.{arith}
use lib.Bits.{bit_xor, xor_comm, xor_self}
use lib.ListN.{length, take, drop, get_or, set, length-drop, length-set}
use lib.Pow.{pow_pos}
use lib.Seq.{drop-cons, drop-set-add, get_or-drop, take-set-le, get_or-set_same, take-suc, take-suc-set}
use Rattle.laws.proofs.Bitwise.{xor_assoc, xor_swap}
use Rattle.crc.specs.WideRegister.{shifts, after_word, after_words}
use Rattle.crc.proofs.Quotient.{divided}
use Rattle.crc.proofs.Shifts.{shifts_linear, shifts_add}
use Rattle.crc.proofs.Windows.{sparse}

-- what is added twice is gone
cancel : (x y z : ℕ) → bit_xor (bit_xor x y) (bit_xor y z) ≡ bit_xor x z
cancel x y z = xor_assoc x y (bit_xor y z) ∙ ap (bit_xor x) (sym (xor_assoc y y z) ∙ ap (λ (t : ℕ). bit_xor t z) (xor_self y))

-- where c shifts are the sum of a, of b and of none, twice as many are too: a square of a sum is the sum of the squares
module _ (a b c v : ℕ) (law : bit_xor (bit_xor (shifts a v) (shifts b v)) v ≡ shifts c v) where
  spread : (n : ℕ) → shifts n (shifts c v) ≡ bit_xor (bit_xor (shifts n (shifts a v)) (shifts n (shifts b v))) (shifts n v)
  spread n =
      ap (shifts n) (sym law) ∙ shifts_linear n (bit_xor (shifts a v) (shifts b v)) v
      ∙ ap (λ (t : ℕ). bit_xor t (shifts n v)) (shifts_linear n (shifts a v) (shifts b v))

  swap : (m n : ℕ) → shifts m (shifts n v) ≡ shifts n (shifts m v)
  swap m n = sym (shifts_add n m v) ∙ ap (λ (t : ℕ). shifts t v) (add_comm n m) ∙ shifts_add m n v

  squared : bit_xor (bit_xor (shifts (a + a) v) (shifts (b + b) v)) v ≡ shifts (c + c) v
  squared =
      let x = shifts a v in
      let y = shifts b v in
      sym (shifts_add c c v ∙ spread c
      ∙ ap₂ bit_xor
      (ap₂ bit_xor (swap c a ∙ spread a) (swap c b ∙ spread b ∙ ap (λ (t : ℕ). bit_xor (bit_xor t (shifts b y)) y) (swap b a))
      ∙ xor_swap (bit_xor (shifts a x) (shifts a y)) x (bit_xor (shifts a y) (shifts b y)) y
      ∙ ap (λ (t : ℕ). bit_xor t (bit_xor x y)) (cancel (shifts a x) (shifts a y) (shifts b y)))
      (sym law)
      ∙ cancel (bit_xor (shifts a x) (shifts b y)) (bit_xor x y) v
      ∙ sym (ap₂ (λ (s t : ℕ). bit_xor (bit_xor s t) v) (shifts_add a a v) (shifts_add b b v)))

-- 2,048 shifts of a register of 16 bits: the polynomial to the power 128, the 16th squared thrice, has bits 0, 512, 1408 and 2048
sparse_wide : (v : ℕ) → v < 2 ^ 16 → bit_xor (bit_xor (shifts 1536 v) (shifts 640 v)) v ≡ shifts 2048 v
sparse_wide v h = squared 768 320 1024 v (squared 384 160 512 v (squared 192 80 256 v (sparse v h)))

-- what is added to a register moves on its own: by one word, and by n
after_more : (c a x : ℕ) → after_word (bit_xor c a) x ≡ bit_xor (after_word c x) (shifts 64 a)
after_more c a x = ap (shifts 64) (xor_assoc c a x ∙ ap (bit_xor c) (xor_comm a x) ∙ sym (xor_assoc c x a)) ∙ shifts_linear 64 (bit_xor c x) a

longer : (n a : ℕ) → shifts (64 * n) (shifts 64 a) ≡ shifts (64 * suc n) a
longer n a = let e : 64 + 64 * n ≡ 64 * suc n = omega arith in sym (shifts_add 64 (64 * n) a) ∙ ap (λ (t : ℕ). shifts t a) e

more : (n : ℕ) (l : List ℕ) (c a : ℕ) → n ≤ length l
    → after_words (bit_xor c a) (take n l) ≡ bit_xor (after_words c (take n l)) (shifts (64 * n) a)
unfolding after_words shifts
more zero l c a h = refl
more (suc n) [] c a h = absurd (omega arith)
more (suc n) (x ∷ l) c a h =
    ap (λ (t : ℕ). after_words t (take n l)) (after_more c a x) ∙ more n l (after_word c x) (shifts 64 a) (omega arith)
    ∙ ap (bit_xor (after_words (after_word c x) (take n l))) (longer n a)

-- a added to the word at p, q words before the end, moves by q words
abbrev pub add : ℕ → List ℕ → ℕ → List ℕ
add a l p = set l p (bit_xor (get_or l p 0) a)

added : (n p q : ℕ) (l : List ℕ) (c a : ℕ) → p + q ≡ n → 0 < q → n ≤ length l
    → after_words c (take n (add a l p)) ≡ bit_xor (after_words c (take n l)) (shifts (64 * q) a)
unfolding after_words
added (suc n) zero q (x ∷ l) c a e h k =
    let f : suc n ≡ q = omega arith in
    ap (λ (t : ℕ). after_words t (take n l)) (ap (shifts 64) (sym (xor_assoc c x a)) ∙ shifts_linear 64 (bit_xor c x) a)
    ∙ more n l (after_word c x) (shifts 64 a) (omega arith)
    ∙ ap (bit_xor (after_words (after_word c x) (take n l))) (longer n a ∙ ap (λ (t : ℕ). shifts (64 * t) a) f)
added (suc n) (suc p) q (x ∷ l) c a e h k = added n p q l (after_word c x) a (omega arith) h (omega arith)
added zero p q l c a e h k = absurd (omega arith)
added (suc n) p q [] c a e h k = absurd (omega arith)

-- a register may as well be added to the first word
pub register_added : (l : List ℕ) (c : ℕ) → 32 ≤ length l → after_words 0 (take 32 (add c l 0)) ≡ after_words c (take 32 l)
register_added l c h = added 32 0 32 l 0 c refl (omega arith) h ∙ sym (more 32 l 0 c h)

-- a word more: one that is there, and one that is put there
pub word_last : (n : ℕ) (l : List ℕ) (c : ℕ) → n < length l → after_words c (take (suc n) l) ≡ after_word (after_words c (take n l)) (get_or l n 0)
unfolding after_words
word_last zero (x ∷ l) c h = refl
word_last (suc n) (x ∷ l) c h = word_last n l (after_word c x) (omega arith)
word_last n [] c h = absurd (omega arith)

pub word_put : (n : ℕ) (l : List ℕ) (c x : ℕ) → n < length l → after_words c (take (n + 1) (set l n x)) ≡ after_word (after_words c (take n l)) x
word_put n l c x h =
    let within : n < length (set l n x) = rw length-set h in
    ap (λ (t : ℕ). after_words c (take t (set l n x))) (add-one n) ∙ word_last n (set l n x) c within
    ∙ ap₂ (λ (r y : ℕ). after_word r y) (ap (after_words c) (take-set-le n l n x (omega arith))) (get_or-set_same l n x 0 h)

-- what the word that leaves adds to three later ones stands for it
leaving : (m : List ℕ) (a : ℕ) → 32 ≤ length m → a < 2 ^ 64
    → after_words 0 (take 32 (add a (add a (add a m 7) 21) 31)) ≡ after_words (shifts 64 a) (take 32 m)
leaving m a h k =
    let s = shifts 64 a in
    let w = after_words 0 (take 32 m) in
    let small : s < 2 ^ 16 = rw (sym (divided a k)) (mod-lt _ (pow_pos 16)) in
    let one : 32 ≤ length (add a m 7) = rw length-set h in
    let two : 32 ≤ length (add a (add a m 7) 21) = rw length-set one in
    added 32 31 1 (add a (add a m 7) 21) 0 a refl (omega arith) two
    ∙ ap (λ (t : ℕ). bit_xor t s)
    (added 32 21 11 (add a m 7) 0 a refl (omega arith) one
    ∙ ap₂ bit_xor (added 32 7 25 m 0 a refl (omega arith) h ∙ ap (bit_xor w) (shifts_add 64 1536 a)) (shifts_add 64 640 a)
    ∙ xor_assoc w (shifts 1536 s) (shifts 640 s))
    ∙ xor_assoc w (bit_xor (shifts 1536 s) (shifts 640 s)) s
    ∙ ap (bit_xor w) (sparse_wide s small)
    ∙ sym (more 32 m 0 s h)

-- a added after the first k words
drop_add : (k p q : ℕ) (l : List ℕ) (a : ℕ) → k + p ≡ q → drop k (add a l q) ≡ add a (drop k l) p
drop_add k p q l a e =
    ap (λ (t : ℕ). drop k (add a l t)) (sym e) ∙ drop-set-add k l p _ ∙ ap (λ (t : ℕ). set (drop k l) p (bit_xor t a)) (sym (get_or-drop k l p 0))

-- the window at i, when x was put after it and its first word has left
module _ (l : List ℕ) (i x : ℕ) (h : i + 32 < length l) where
  abbrev extended : List ℕ
  extended = set l (i + 32) x

  pub slid_wide : get_or extended i 0 < 2 ^ 64
      → after_words 0 (take 32 (drop (i + 1) (add (get_or extended i 0) (add (get_or extended i 0) (add (get_or extended i 0) extended (i + 8)) (i + 22)) (i + 32))))
      ≡ after_word (after_words 0 (take 32 (drop i l))) x
  unfolding after_words
  slid_wide k =
      let a = get_or extended i 0 in
      let within : i < length extended = rw length-set (omega arith) in
      let long : 32 ≤ length (drop (i + 1) extended) = simp (length-drop, length-set) (omega arith) in
      let room : 32 < length (drop i l) = rw length-drop (omega arith) in
      ap (λ (m : List ℕ). after_words 0 (take 32 m))
      (drop_add (i + 1) 31 (i + 32) _ a (omega arith)
      ∙ ap (λ (m : List ℕ). add a m 31)
      (drop_add (i + 1) 21 (i + 22) _ a (omega arith) ∙ ap (λ (m : List ℕ). add a m 21) (drop_add (i + 1) 7 (i + 8) extended a (omega arith))))
      ∙ leaving (drop (i + 1) extended) a long k
      ∙ ap (λ (m : List ℕ). after_words 0 (take 33 m))
      (ap (λ (t : ℕ). a ∷ drop t extended) (add-one i) ∙ sym (drop-cons extended i 0 within) ∙ drop-set-add i l 32 x)
      ∙ word_put 32 (drop i l) 0 x room

-- four words as a window
pub first_four_lem : (l : List ℕ) → 4 ≤ length l
    → after_word (after_word (after_word (shifts 64 (get_or l 0 0)) (get_or l 1 0)) (get_or l 2 0)) (get_or l 3 0) ≡ after_words 0 (take 4 l)
unfolding after_words
first_four_lem (a ∷ b ∷ c ∷ d ∷ l) h = refl
first_four_lem [] h = absurd (omega arith)
first_four_lem (a ∷ []) h = absurd (omega arith)
first_four_lem (a ∷ b ∷ []) h = absurd (omega arith)
first_four_lem (a ∷ b ∷ c ∷ []) h = absurd (omega arith)
