-- Laws of bytes that are put as far as they have room: none, one, no room, room for all, and bytes after others.
-- Assumes nothing.
use mathlib.Core.Path.{◌≡◌, refl, sym, ap, ap₂, ◌∙◌}
use mathlib.Core.Bool.{Bool, true, false}
use mathlib.Core.List.{List, [], ◌∷◌, ◌++◌, append-nil}
use Prim.Native.Nat.{ℕ, zero, suc, ◌+◌, ◌-◌, ◌≤◌, ◌<◌}
use native.Mathlib.Nat.{add-zero, sub-zero, suc-sub-suc, min-le_left}
use native.Mathlib.Omega.{arith}
use borrow.Author.Tests.{leb-true, leb-false}
use lib.Dec.{leb}
use lib.ListN.{length, take, set, length-append, length-take}
use lib.Seq.{take_all, take-nil}
use Rattle.laws.specs.Buffers.{written}
use Rattle.laws.proofs.Buffers.{written_nil, written_sets, written_more, length-written}
use Rattle.buffers.specs.Putting.{in_room, Puts}

-- what is put, by the bytes that have room
puts_so : (d : List ℕ) (at : ℕ) (bytes some : List ℕ) {after : List ℕ} {next : ℕ} → in_room d at bytes ≡ some
    → after ≡ written d at some → next ≡ at + length some → Puts d at bytes after next
puts_so d at bytes some e b p = record { buffer = rw e b; place = rw e p }

-- no byte
pub put_nothing : (d : List ℕ) (at : ℕ) → Puts d at [] d at
put_nothing d at = puts_so d at [] [] (take-nil (length d - at)) (sym (written_nil d at)) (sym (add-zero at))

-- one byte that has room
pub put_one : (d : List ℕ) (at byte : ℕ) → at < length d → Puts d at (byte ∷ []) (set d at byte) (at + 1)
put_one d at byte h =
    let one = byte ∷ [] in
    puts_so d at one one (take_all (length d - at) one (omega arith)) (written_sets d at one (omega arith)) refl

-- a buffer that is full
full : (d : List ℕ) (at : ℕ) (bytes : List ℕ) → length d ≤ at → in_room d at bytes ≡ []
full d at bytes h = let none : length d - at ≡ 0 = omega arith in ap (λ (n : ℕ). take n bytes) none

pub put_none : (d : List ℕ) (at : ℕ) (bytes : List ℕ) → length d ≤ at → Puts d at bytes d at
put_none d at bytes h = puts_so d at bytes [] (full d at bytes h) (sym (written_nil d at)) (sym (add-zero at))

-- the bytes that have room are at most as many as are free
in_room_most : (d : List ℕ) (at : ℕ) (bytes : List ℕ) → length (in_room d at bytes) ≤ length d - at
in_room_most d at bytes = rw length-take (min-le_left (length d - at) (length bytes))

module _ {d : List ℕ} {at : ℕ} {bytes after : List ℕ} {next : ℕ} (p : Puts d at bytes after next) where
  -- the buffer keeps its length
  pub puts_length : length after ≡ length d
  puts_length = ap length p.buffer ∙ go (leb at (length d)) refl
    where
      go : (inside : Bool) → leb at (length d) ≡ inside → length (written d at (in_room d at bytes)) ≡ length d
      go true e = let h = leb-true at (length d) e in length-written d at (in_room d at bytes) (omega (arith, in_room_most d at bytes))
      go false e = let h = leb-false at (length d) e in rw (full d at bytes (omega arith), written_nil)

  -- bytes that all have room
  module _ (h : at + length bytes ≤ length d) where
    all_in : in_room d at bytes ≡ bytes
    all_in = take_all (length d - at) bytes (omega arith)

    pub whole_buffer : after ≡ written d at bytes
    whole_buffer = p.buffer ∙ ap (written d at) all_in

    pub whole_place : next ≡ at + length bytes
    whole_place = p.place ∙ ap (λ (l : List ℕ). at + length l) all_in

-- of some bytes and others the first k: of the others as many as the first leave
take_both : (k : ℕ) (xs ys : List ℕ) → take k (xs ++ ys) ≡ take k xs ++ take (k - length (take k xs)) ys
take_both zero xs ys = refl
take_both (suc k) [] ys = rw (sub-zero (suc k))
take_both (suc k) (x ∷ xs) ys = rw (suc-sub-suc k (length (take k xs))) (ap (λ (l : List ℕ). x ∷ l) (take_both k xs ys))

-- some bytes after others
module _ {d : List ℕ} {at : ℕ} {xs e : List ℕ} {r : ℕ} {ys f : List ℕ} {q : ℕ} (a : Puts d at xs e r) (b : Puts e r ys f q) where
  in_room_both : in_room d at (xs ++ ys) ≡ in_room d at xs ++ in_room e r ys
  in_room_both =
      let rest : length d - at - length (in_room d at xs) ≡ length e - r = omega (arith, puts_length a) in
      take_both (length d - at) xs ys ∙ ap (λ (n : ℕ). in_room d at xs ++ take n ys) rest

  -- to a buffer that is full after the first bytes the others add nothing
  written_both : (none : Bool) → leb (length e) r ≡ none → f ≡ written d at (in_room d at xs ++ in_room e r ys)
  written_both true t =
      let none = full e r ys (leb-true (length e) r t) in
      b.buffer ∙ rw (none, append-nil) (written_nil e r ∙ a.buffer)
  written_both false t =
      let free = leb-false (length e) r t in
      let same = puts_length a in
      b.buffer
      ∙ ap₂ (λ (l : List ℕ) (k : ℕ). written l k (in_room e r ys)) a.buffer a.place
      ∙ written_more d at (in_room d at xs) (omega arith) (in_room e r ys) (omega (arith, in_room_most e r ys))

  pub put_then_lem : Puts d at (xs ++ ys) f q
  put_then_lem =
      puts_so d at (xs ++ ys) (in_room d at xs ++ in_room e r ys) in_room_both (written_both (leb (length e) r) refl)
      (omega (arith, length-append (in_room d at xs) (in_room e r ys)))
