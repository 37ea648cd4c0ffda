-- Numbered writes without their numbers, and writes that all have one number.
-- Assumes nothing.
use Rattle.std.proofs.Common.{◌≡◌, ℕ, List, [], ◌∷◌, ◌++◌, refl, ap, ◌∙◌}
use mathlib.Core.List.Memᴰ
use mathlib.Core.List.{Memᴰ}
use Rattle.registers.specs.Bursts.{RegisterWrite}
use Rattle.origins.specs.declared.NumberedWrite.{NumberedWrite}
use Rattle.origins.specs.NumberedWrites.{unnumbered, unnumbered_writes, numbered_as}

-- of lists one after the other
pub unnumbered_append : (a b : List NumberedWrite)
    → unnumbered_writes (a ++ b) ≡ unnumbered_writes a ++ unnumbered_writes b
unfolding unnumbered_writes
unnumbered_append [] b = refl
unnumbered_append (write ∷ a) b = ap (λ (l : List RegisterWrite). unnumbered write ∷ l) (unnumbered_append a b)

-- of writes that were given a number
pub unnumbered_as : (number : ℕ) (writes : List RegisterWrite) → unnumbered_writes (numbered_as number writes) ≡ writes
unfolding unnumbered_writes numbered_as
unnumbered_as number [] = refl
unnumbered_as number (write ∷ writes) = ap (λ (l : List RegisterWrite). write ∷ l) (unnumbered_as number writes)

-- which they are: those of the list, with that number
pub numbered_in : (number : ℕ) (writes : List RegisterWrite) (write : NumberedWrite)
    → Memᴰ write (numbered_as number writes) → (write.number ≡ number) × Memᴰ (unnumbered write) writes
unfolding numbered_as
numbered_in number [] write m = absurd (Memᴰ.not-nil m)
numbered_in number (w ∷ writes) write (Memᴰ.head e) =
    (ap (λ (v : NumberedWrite). v.number) e, Memᴰ.head (ap unnumbered e))
numbered_in number (w ∷ writes) write (Memᴰ.tail m) =
    let later = numbered_in number writes write m in (later.0, Memᴰ.tail later.1)

pub in_numbered : (number : ℕ) (writes : List RegisterWrite) (write : NumberedWrite) → write.number ≡ number
    → Memᴰ (unnumbered write) writes → Memᴰ write (numbered_as number writes)
unfolding numbered_as
in_numbered number [] write n m = absurd (Memᴰ.not-nil m)
in_numbered number (w ∷ writes) write n (Memᴰ.head e) =
    Memᴰ.head
    (ap (λ (k : ℕ). record { number = k; offset = write.offset; value = write.value }) n
    ∙ ap (λ (v : RegisterWrite). record { number = number; offset = v.offset; value = v.value }) e)
in_numbered number (w ∷ writes) write n (Memᴰ.tail m) = Memᴰ.tail (in_numbered number writes write n m)
