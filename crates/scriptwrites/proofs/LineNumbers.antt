-- The number of a write of a script is that of the line in which the call stands.
-- Assumes nothing.
use mathlib.Core.Path.{◌≡◌, refl}
use mathlib.Core.Bool.{Bool, true, false}
use mathlib.Core.List.{List, [], ◌∷◌, ◌++◌}
use mathlib.Core.List.Memᴰ
use mathlib.Core.List.{Memᴰ}
use mathlib.Core.Logic.{◌⊎◌, inl, inr}
use Prim.Native.Nat.{ℕ, zero, suc, ◌-◌, ◌≤◌}
use native.Mathlib.Omega.{arith}
use borrow.Author.Tests.{eqb-true, eqb-false}
use lib.Dec.{eqb}
use lib.ListN.{get_or}
use Rattle.laws.proofs.Absurd.{zero_not_one}
use Rattle.registers.specs.Bursts.{RegisterWrite}
use Rattle.origins.specs.declared.NumberedWrite.{NumberedWrite}
use Rattle.origins.specs.NumberedWrites.{unnumbered, numbered_as, NumbersMean}
use Rattle.origins.proofs.NumberedWrites.{numbered_in, in_numbered}
use Rattle.calls.specs.Grammar.{Blanks, BlankLine, IsScriptLine, blank, called}
use Rattle.calls.proofs.LineLaws.{lines_taken}
use Rattle.script.specs.Reading.{parts_of}
use Rattle.scriptwrites.specs.NumberedCalls.{numbered_calls, NumbersAreLines}
use Rattle.scriptwrites.proofs.NumberedCalls.{by_lines}

-- the write is the call of the line that has its number, where the first of the lines has the number `first`
record InLines (first : ℕ) (lines : List (List ℕ)) (write : NumberedWrite) : Type 0 where
  counted : first ≤ write.number
  call : IsScriptLine (get_or lines (write.number - first) []) (unnumbered write ∷ [])

-- a line has one list of calls, and an empty one has none
one_reading : (line : List ℕ) (a b : List RegisterWrite) → IsScriptLine line a → IsScriptLine line b → a ≡ b
one_reading line a b first second =
    let one = (lines_taken line a).every first in
    let other = (lines_taken line b).every second in
    cc

no_call : (call : RegisterWrite) → IsScriptLine [] (call ∷ []) → ⊥
no_call call c =
    let none : Blanks = record { bytes = []; blank = refl } in
    let empty : BlankLine [] = record { blanks = none; comment = []; commented = refl; shape = refl } in
    let same = one_reading [] [] (call ∷ []) (blank empty) c in
    zero_not_one (cc)

-- where every line is empty there is no write
none_stands : (number : ℕ) (lines : List (List ℕ)) → ((n : ℕ) → get_or lines n [] ≡ [])
    → NumbersMean (InLines number lines) []
none_stands number lines empty =
    record {
      only = λ write m. absurd (Memᴰ.not-nil m);
      every = λ write l. absurd (no_call (unnumbered write) (rw (empty (write.number - number)) at l.call));
    }

-- one more line in front
module _ (number : ℕ) (line : List ℕ) (lines : List (List ℕ)) where
  at_first : (write : NumberedWrite) → write.number ≡ number
      → get_or (line ∷ lines) (write.number - number) [] ≡ line
  at_first write e = let first : write.number - number ≡ 0 = omega arith in rw first

  at_later : (write : NumberedWrite) → suc number ≤ write.number
      → get_or (line ∷ lines) (write.number - number) [] ≡ get_or lines (write.number - suc number) []
  at_later write h = let next : write.number - number ≡ suc (write.number - suc number) = omega arith in rw next

  -- a call of the line is its only one
  single : (here : List RegisterWrite) → IsScriptLine line here → (call : RegisterWrite) → Memᴰ call here
      → IsScriptLine line (call ∷ [])
  single (only ∷ (_ ∷ _)) x6 call m = elim x6 [ ]
  single [] (blank b) call m = absurd (Memᴰ.not-nil m)
  single (only ∷ []) (called c) call m = rw (Memᴰ.eq_of_singleton m) (called c)

  line_stands : (here : List RegisterWrite) (later : List NumberedWrite) → IsScriptLine line here
      → NumbersMean (InLines (suc number) lines) later
      → NumbersMean (InLines number (line ∷ lines)) (numbered_as number here ++ later)
  line_stands here later l rest =
      record { only = λ write m. either write (Memᴰ.append_cases own m); every = every }
    where
      own : List NumberedWrite
      own = numbered_as number here

      either : (write : NumberedWrite) → Memᴰ write own ⊎ Memᴰ write later
          → InLines number (line ∷ lines) write
      either write (inl m) =
          let two = numbered_in number here write m in
          record {
            counted = omega (arith, two.0);
            call = rw (at_first write two.0) (single here l (unnumbered write) two.1);
          }
      either write (inr m) =
          let i = rest.only write m in
          record { counted = omega (arith, i.counted); call = rw (at_later write i.counted) i.call }

      every : (write : NumberedWrite) → InLines number (line ∷ lines) write → Memᴰ write (own ++ later)
      every write i = go (eqb write.number number) refl
        where
          go : (b : Bool) → eqb write.number number ≡ b → Memᴰ write (own ++ later)
          go true e =
              let n = eqb-true write.number number e in
              let same = one_reading line here (unnumbered write ∷ []) l (rw (at_first write n) at i.call) in
              Memᴰ.append_left later (in_numbered number here write n (rw same (Memᴰ.head refl)))
          go false e =
              let other = eqb-false write.number number e in
              let above : suc number ≤ write.number = omega (arith, i.counted) in
              Memᴰ.append_right own
              (rest.every write (record { counted = above; call = rw (at_later write above) at i.call }))

pub numbers_are_lines : NumbersAreLines
unfolding numbered_calls
numbers_are_lines text writes e =
    record {
      only = λ write m. let i = stands.only write m in record { counted = i.counted; called = i.call };
      every = λ write i. stands.every write (record { counted = i.counted; call = i.called });
    }
  where
    nothing : (n : ℕ) → get_or {A = List ℕ} ([] ∷ []) n [] ≡ []
    nothing zero = refl
    nothing (suc n) = refl

    stands : NumbersMean (InLines 1 (parts_of text)) writes
    stands =
        by_lines (λ first lines. NumbersMean (InLines first lines)) (λ number. none_stands number [] (λ n. refl))
        (λ number. none_stands number ([] ∷ []) nothing) line_stands 1 (parts_of text) writes e
