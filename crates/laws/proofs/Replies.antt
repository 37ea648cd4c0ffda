-- Laws of replies that follow from one another: what was given, and that it had room.
-- Assumes nothing.
use mathlib.Core.Path.{◌≡◌, refl, sym, ap}
use mathlib.Core.Bool.{Bool, true, false, cond}
use mathlib.Core.List.{List, [], ◌++◌, append_assoc}
use mathlib.Core.Option.{Option}
use Prim.Native.Nat.{ℕ, ◌+◌, ◌≤◌}
use borrow.Author.Tests.{leb-true}
use lib.ListN.{length}
use Rattle.laws.specs.Reply.{Reply, refused, refused_with, given, on_reply, and_then}
use Rattle.laws.specs.Buffers.{has_room, if_room, count_of}
use Rattle.laws.proofs.Absurd.{zero_not_one}

-- no reply is both a refusal and given
pub refused_given : {A B : Type 0} {reply : Reply A} {number : ℕ} {detail : Option ℕ} {a : A} → reply ≡ refused_with number detail → reply ≡ given a → B
refused_given r g = zero_not_one (cc)

-- and it gives one thing
pub given_same : {A : Type 0} {reply : Reply A} {a b : A} → reply ≡ given a → reply ≡ given b → a ≡ b
given_same g h = cc

-- what is given after a test passed it
module _ {A : Type 0} {next : Reply A} {a : A} (number : ℕ) where
  pub was_true : (test : Bool) → cond test next (refused number) ≡ given a → (test ≡ true) × (next ≡ given a)
  was_true true e = (refl, e)
  was_true false e = zero_not_one (cc)

  pub was_false : (test : Bool) → cond test (refused number) next ≡ given a → (test ≡ false) × (next ≡ given a)
  was_false true e = zero_not_one (cc)
  was_false false e = (refl, e)

module _ {A B : Type 0} where
  -- what is given next follows from what was given first
  pub then_given : (reply : Reply A) (next : A → Reply B) {b : B} → and_then reply next ≡ given b → (a : A) × (reply ≡ given a) × (next a ≡ given b)
  then_given (refused_with number detail) next e = zero_not_one (cc)
  then_given (given a) next e = (a, refl, e)

  -- what is made of a reply is given where the reply is
  pub on_given : (f : A → B) (reply : Reply A) {b : B} → given b ≡ on_reply f reply → (a : A) × (reply ≡ given a) × (b ≡ f a)
  on_given f (refused_with number detail) e = zero_not_one (cc)
  on_given f (given a) e = (a, refl, cc)

  -- and refused where it is
  pub on_refused : (f : A → B) (reply : Reply A) {number : ℕ} {detail : Option ℕ} → refused_with number detail ≡ on_reply f reply → reply ≡ refused_with number detail
  on_refused f (refused_with other detail) e = cc
  on_refused f (given a) e = zero_not_one (cc)

-- what is put before nothing, and before what something was put before
module _ {A : Type 0} where
  pub joined_none : (reply : Reply (List A)) → reply ≡ on_reply (λ (later : List A). [] ++ later) reply
  joined_none (refused_with number detail) = refl
  joined_none (given later) = refl

  pub joined_twice : (a b : List A) (reply : Reply (List A))
      → on_reply (λ (later : List A). a ++ later) (on_reply (λ (later : List A). b ++ later) reply) ≡ on_reply (λ (later : List A). (a ++ b) ++ later) reply
  joined_twice a b (refused_with number detail) = refl
  joined_twice a b (given later) = ap given (sym (append_assoc a b later))

-- bytes, of which the source knows how many they are, by the test for room
pub room_by : (size place : ℕ) (bytes : List ℕ) (n : ℕ) → length bytes ≡ n → {room : Bool} → has_room size place n ≡ room
    → if_room size place bytes ≡ cond room (given bytes) (refused 8)
unfolding if_room
room_by size place bytes n count e = rw (count, e)

-- bytes that are given had room
pub had_room : (size place : ℕ) (bytes : List ℕ) {found : List ℕ} → if_room size place bytes ≡ given found
    → (has_room size place (length bytes) ≡ true) × (bytes ≡ found)
unfolding if_room
had_room size place bytes e = let tested = was_true 8 (has_room size place (length bytes)) e in (tested.0, cc)

pub room_given : (size place : ℕ) (bytes : List ℕ) {found : List ℕ} → if_room size place bytes ≡ given found
    → (found ≡ bytes) × (place + length bytes ≤ size)
room_given size place bytes e =
    let had = had_room size place bytes e in (cc, leb-true (place + length bytes) size had.0)

-- so many bytes were given
pub count_given : (reply : Reply (List ℕ)) {n : ℕ} → given n ≡ count_of reply → (bytes : List ℕ) × (reply ≡ given bytes) × (n ≡ length bytes)
count_given (refused_with number detail) e = zero_not_one (cc)
count_given (given bytes) e = (bytes, refl, cc)
