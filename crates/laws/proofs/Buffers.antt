-- Laws of a buffer that was written into from a place, and of an answer with the buffer after it.
-- Assumes nothing.
use mathlib.Core.Path.{◌≡◌, refl, sym, ap, ap₂, ◌∙◌}
use mathlib.Core.Bool.{Bool, true, false}
use mathlib.Core.List.{List, [], ◌∷◌, ◌++◌, append_assoc, append-nil}
use Prim.Native.Nat.{ℕ, zero, suc, ◌+◌, ◌-◌, ◌<◌, ◌≤◌}
use native.Mathlib.Nat.{add-zero, zero-add, add_assoc}
use native.Mathlib.Numerals.{add-one}
use native.Mathlib.Omega.{arith}
use borrow.Author.Tests.{le-leb, lt-leb, leb-true, leb-false}
use lib.Dec.{leb}
use lib.ListN.{length, take, drop, get_or, set, length-append, length-drop, take-append-drop}
use lib.Seq.{take_all, drop-length, length-take-le, drop-cons, take_at, drop_at, drop-append-add, sets, sets-eq, paste, paste-suc, drop-drop}
use borrow.Rule.Slice.PartMut.{put_mid, mid_of, post_of, Post-is}
use Rattle.std.specs.Prelude.{Result, Err}
use Rattle.laws.specs.Reply.{Reply, refused, given, reply_by}
use Rattle.laws.specs.Buffers.{written, has_room, after_reply, count_of, Writes}

-- nothing written
pub written_nil : (d : List ℕ) (at : ℕ) → written d at [] ≡ d
unfolding written
written_nil d at =
    ap (λ (k : ℕ). take at d ++ [] ++ drop k d) (add-zero at)
    ∙ ap (λ (l : List ℕ). l ++ drop at d) (append-nil (take at d))
    ∙ take-append-drop at d

-- a run of stores, one after the other
pub written_sets : (d : List ℕ) (at : ℕ) (bytes : List ℕ) → at + length bytes ≤ length d → sets d at bytes ≡ written d at bytes
unfolding written
written_sets d at bytes h = sets-eq bytes d at h

module _ (d : List ℕ) (at : ℕ) (a : List ℕ) (fits : at + length a ≤ length d) where
  head_length : length (take at d ++ a) ≡ at + length a
  head_length = length-append (take at d) a ∙ ap (λ (k : ℕ). k + length a) (length-take-le at d (omega arith))

  -- the buffer keeps its length
  pub length-written : length (written d at a) ≡ length d
  unfolding written
  length-written =
      length-append (take at d ++ a) (drop (at + length a) d) ∙ ap₂ ◌+◌ head_length (length-drop (at + length a) d) ∙ omega arith

  -- more bytes after those written
  pub written_more : (b : List ℕ) → at + length a + length b ≤ length d → written (written d at a) (at + length a) b ≡ written d at (a ++ b)
  unfolding written
  written_more b h =
      let p = take at d ++ a in
      let n = at + length a in
      ap₂ (λ (u v : List ℕ). u ++ b ++ v)
      (take_at p (drop n d) n head_length)
      (ap (λ (k : ℕ). drop (k + length b) (p ++ drop n d)) (sym head_length) ∙ drop-append-add p (drop n d) (length b) ∙ drop-drop (length b) n d)
      ∙ ap (λ (l : List ℕ). l ++ drop (n + length b) d) (append_assoc (take at d) a b)
      ∙ ap (λ (k : ℕ). take at d ++ (a ++ b) ++ drop k d) (add_assoc at (length a) (length b) ∙ ap (λ (k : ℕ). at + k) (sym (length-append a b)))

  -- what stands from the place on: the bytes, and the rest as it was
  pub drop-written : drop at (written d at a) ≡ a ++ drop (at + length a) d
  unfolding written
  drop-written =
      ap (drop at) (append_assoc (take at d) a (drop (at + length a) d))
      ∙ drop_at (take at d) (a ++ drop (at + length a) d) at (length-take-le at d (omega arith))

  -- what is read back is what was written
  pub read_written : take (length a) (drop at (written d at a)) ≡ a
  read_written = ap (take (length a)) drop-written ∙ take_at a (drop (at + length a) d) (length a) refl

-- the first bytes of a list, written as a copy of them
written_taken : (d : List ℕ) (at : ℕ) (bytes : List ℕ) (i : ℕ) → i ≤ length bytes → written d at (take i bytes) ≡ paste d at bytes i
unfolding written
written_taken d at bytes i h = ap (λ (k : ℕ). take at d ++ take i bytes ++ drop (at + k) d) (length-take-le i bytes h)

-- one more of them: a turn of a loop that copies
pub written_next : (d : List ℕ) (at : ℕ) (bytes : List ℕ) (i : ℕ) → i < length bytes → at + length bytes ≤ length d
    → set (written d at (take i bytes)) (at + i) (get_or bytes i 0) ≡ written d at (take (i + 1) bytes)
written_next d at bytes i h fits =
    ap (λ (l : List ℕ). set l (at + i) (get_or bytes i 0)) (written_taken d at bytes i (omega arith))
    ∙ paste-suc d at bytes i 0 (omega arith) h
    ∙ sym (written_taken d at bytes (suc i) h)
    ∙ ap (λ (k : ℕ). written d at (take k bytes)) (sym (add-one i))

-- A part from the place on, `&mut d[at..]`, was lent to a writer that wrote at its start, and is back.
pub lent_written : (d part bytes : List ℕ) (at : ℕ) → at + length bytes ≤ length d → part ≡ written (mid_of at (length d - at) d) 0 bytes
    → put_mid at (length d - at) d part ≡ written d at bytes
unfolding written
lent_written d part bytes at h e =
    let whole : mid_of at (length d - at) d ≡ drop at d = take_all (length d - at) (drop at d) (let l = length-drop at d in omega arith) in
    let none : post_of at (length d - at) d ≡ [] = Post-is at (length d) d (omega arith) ∙ drop-length d in
    let rest : drop (0 + length bytes) (drop at d) ≡ drop (at + length bytes) d =
    ap (λ (n : ℕ). drop n (drop at d)) (zero-add (length bytes)) ∙ drop-drop (length bytes) at d in
    let back : part ≡ bytes ++ drop (at + length bytes) d =
    e ∙ ap (λ (l : List ℕ). written l 0 bytes) whole ∙ ap (λ (l : List ℕ). bytes ++ l) rest in
    ap₂ (λ (x y : List ℕ). take at d ++ (x ++ y)) back none
    ∙ ap (λ (l : List ℕ). take at d ++ l) (append-nil (bytes ++ drop (at + length bytes) d))
    ∙ sym (append_assoc (take at d) bytes (drop (at + length bytes) d))

-- the k elements of l from i on, one by one
abbrev pub run : ℕ → ℕ → List ℕ → List ℕ
run zero i l = []
run (suc k) i l = get_or l i 0 ∷ run k (suc i) l

pub run_eq : (k i : ℕ) (l : List ℕ) → i + k ≤ length l → take k (drop i l) ≡ run k i l
run_eq zero i l h = refl
run_eq (suc k) i l h =
    ap (take (suc k)) (drop-cons l i 0 (omega arith)) ∙ ap (λ (r : List ℕ). get_or l i 0 ∷ r) (run_eq k (suc i) l (omega arith))

-- the test for room without the sum, which may be too large for the machine
pub room_test : (size place needed : ℕ) → needed ≤ size → leb place (size - needed) ≡ has_room size place needed
room_test size place needed h = go (leb place (size - needed)) refl
  where
    go : (b : Bool) → leb place (size - needed) ≡ b → b ≡ has_room size place needed
    go true e = let l = leb-true place (size - needed) e in sym (le-leb (place + needed) size (omega arith))
    go false e = let l = leb-false place (size - needed) e in sym (lt-leb (place + needed) size (omega arith))

-- a refusal is the answer, and the buffer stays
pub refusal : (d : List ℕ) (place number : ℕ) {reply : Reply (List ℕ)} → reply ≡ refused number → Writes d place reply (refused number) d
refusal d place number e = record { answer = sym (ap count_of e); buffer = sym (ap (after_reply d place) e) }

-- the same of a refusal that has its number by `number`
pub refused_by : {E : Type 0} (d : List ℕ) (place : ℕ) (number : E → ℕ) {e : E} {result : Result ℕ E} {reply : Reply (List ℕ)} → result ≡ Err e
    → reply ≡ refused (number e) → Writes d place reply (reply_by number result) d
refused_by d place number {e} told so =
    record { answer = ap (reply_by number) told ∙ sym (ap count_of so); buffer = sym (ap (after_reply d place) so) }

-- the bytes that were written are the answer and stand in the buffer
pub writing : (d : List ℕ) (place n : ℕ) (bytes : List ℕ) {after : List ℕ} {reply : Reply (List ℕ)} → reply ≡ given bytes → n ≡ length bytes
    → after ≡ written d place bytes → Writes d place reply (given n) after
writing d place n bytes e l a = record { answer = ap given l ∙ sym (ap count_of e); buffer = a ∙ sym (ap (after_reply d place) e) }

-- what was answered by one reply was answered by an equal one
pub answered_so : (d : List ℕ) (place : ℕ) {answer : Reply ℕ} {after : List ℕ} {reply next : Reply (List ℕ)} → reply ≡ next
    → Writes d place next answer after → Writes d place reply answer after
answered_so d place e w = record { answer = w.answer ∙ sym (ap count_of e); buffer = w.buffer ∙ sym (ap (after_reply d place) e) }
