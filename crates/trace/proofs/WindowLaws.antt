-- Laws of the next record of a window on a file: where the window shows it, it is the file's.
-- Assumes nothing.
use mathlib.Core.Path.{◌≡◌, refl}
use mathlib.Core.Bool.{Bool, true, false, cond, not}
use mathlib.Core.List.{List, ◌++◌, [], append-nil}
use Prim.Native.Nat.{ℕ, ◌+◌, ◌≤◌}
use native.Mathlib.Omega.{arith}
use borrow.Author.Tests.{leb-true, eqb-false, not-true}
use lib.Dec.{eqb}
use lib.ListN.{length, drop, length-drop}
use lib.Seq.{drop-append-le}
use Rattle.trace.specs.Framing.{record_length, holds_record}
use Rattle.trace.specs.Records.{record_of}
use Rattle.trace.proofs.RecordLaws.{some_bytes, same_record}

-- what follows a record is shorter
pub rest_less : (bytes : List ℕ) → 1 ≤ length bytes → 1 + length (drop (record_length bytes) bytes) ≤ length bytes
rest_less bytes h = omega (arith, some_bytes bytes, length-drop (record_length bytes) bytes)

-- a window shows a whole record or, at the file's end, any byte
abbrev pub shows : Bool → List ℕ → Bool
shows last left = cond last (not (eqb (length left) 0)) (holds_record left)

-- it has a byte left then
pub some_left : (last : Bool) (left : List ℕ) → shows last left ≡ true → 1 ≤ length left
some_left true left h = let ne = eqb-false (length left) 0 (not-true (eqb (length left) 0) h) in omega arith
some_left false left h = omega (arith, some_bytes left, leb-true (record_length left) (length left) h)

-- and its next record is the file's, whatever follows the window
pub record SameNext (first : Bool) (left rest : List ℕ) : Type 0 where
  pub found : record_of first (left ++ rest) ≡ record_of first left
  pub after : drop (record_length (left ++ rest)) (left ++ rest) ≡ drop (record_length left) left ++ rest

pub same_next : (last first : Bool) (left rest : List ℕ) → (last ≡ true → rest ≡ []) → shows last left ≡ true → SameNext first left rest
same_next true first left rest ends h =
    let none = ends refl in
    record { found = rw (none, append-nil); after = rw (none, append-nil left, append-nil (drop (record_length left) left)) }
same_next false first left rest ends h =
    let same = same_record first left rest h in
    record { found = same.0; after = rw same.1 (drop-append-le (record_length left) left rest (leb-true (record_length left) (length left) h)) }
