-- Laws of the bytes of a line: what stands from a place on, and hex digits.
-- Assumes nothing.
use mathlib.Core.Path.{◌≡◌, refl, sym, ap, ◌∙◌}
use mathlib.Core.Bool.{Bool, true, false, cond}
use mathlib.Core.List.{List, ◌∷◌}
use mathlib.Core.Option.{none}
use Prim.Native.Nat.{ℕ, ◌+◌, ◌-◌, ◌≤◌, ◌<◌}
use native.Mathlib.Numerals.{add-one}
use native.Mathlib.Omega.{arith}
use borrow.Author.Tests.{ltb-true, ltb-false}
use lib.Dec.{T, eqb, ltb, eqb→eq}
use lib.ListN.{length, get_or, drop, get_or-eq_default, drop_of_length-le}
use lib.Seq.{drop-cons}
use Rattle.laws.proofs.Tables.{all_below, below_at}
use Rattle.calls.specs.Grammar.{is_blank, digit_value}
use Rattle.calls.specs.ScriptLines.{after_blanks, after_prefix}

-- the byte at a place, and those after it
pub from : (line : List ℕ) (place : ℕ) → place < length line → drop place line ≡ get_or line place 0 ∷ drop (place + 1) line
from line place h = drop-cons line place 0 h ∙ ap (λ (n : ℕ). get_or line place 0 ∷ drop n line) (sym (add-one place))

-- blanks by the byte at a place
pub by_blank : (line : List ℕ) (place : ℕ) → place < length line
    → after_blanks (drop place line) ≡ cond (is_blank (get_or line place 0)) (after_blanks (drop (place + 1) line)) (drop place line)
unfolding after_blanks
by_blank line place h = rw (from line place h)

-- a word by the letter and the byte that are compared; where there is no byte it does not stand there
pub by_letter : (word line : List ℕ) (i place : ℕ) → i < length word → place < length line
    → after_prefix (drop i word) (drop place line)
    ≡ cond (eqb (get_or line place 0) (get_or word i 0)) (after_prefix (drop (i + 1) word) (drop (place + 1) line)) none
unfolding after_prefix
by_letter word line i place h k = rw (from word i h, from line place k)

pub no_byte : (word line : List ℕ) (i place : ℕ) → i < length word → length line ≤ place → after_prefix (drop i word) (drop place line) ≡ none
unfolding after_prefix
no_byte word line i place h k = rw (from word i h, drop_of_length-le line {i = place} k)

-- a digit by the range that its byte lies in: a test that is computed at each byte of the range
pub digit_between : (low count : ℕ) (value : ℕ → ℕ) → T (all_below (λ k. eqb (digit_value (low + k)) (value (low + k))) count)
    → (byte : ℕ) → low ≤ byte → byte < low + count → digit_value byte ≡ value byte
digit_between low count value computed byte from below =
    let test : ℕ → Bool = λ k. eqb (digit_value (low + k)) (value (low + k)) in
    let same : low + (byte - low) ≡ byte = omega arith in
    let found = rw same at (below_at test count computed (byte - low) (omega arith)) in
    eqb→eq (digit_value byte) (value byte) found

-- a digit stands inside the line
pub digit_inside : (line : List ℕ) (at : ℕ) → digit_value (get_or line at 0) < 16 → at < length line
unfolding digit_value
digit_inside line at h = go (ltb at (length line)) refl
  where
    go : (b : Bool) → ltb at (length line) ≡ b → at < length line
    go true e = ltb-true at (length line) e
    go false e = let past = ap digit_value (get_or-eq_default line 0 {n = at} (ltb-false at (length line) e)) in absurd (omega arith)
