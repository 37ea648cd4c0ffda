-- Bursts and lists of writes.
-- Assumes nothing.
use mathlib.Core.Path.{◌≡◌, refl}
use mathlib.Core.List.{List, [], ◌∷◌, ◌++◌}
use Prim.Native.Nat.{ℕ}
use Rattle.registers.specs.declared.RegisterFile.{RegisterFile}
use Rattle.registers.specs.declared.PageAccess.{PageAccess}
use Rattle.registers.specs.RegisterFiles.{write_register}
use Rattle.registers.specs.Bursts.{RegisterWrite, burst_writes, write_each, write_burst}

-- a burst of one value
pub burst_one : (offset value : ℕ) → burst_writes offset (value ∷ []) ≡ record { offset = offset; value = value } ∷ []
unfolding burst_writes
burst_one offset value = refl

module _ (access : PageAccess) where
  -- a burst is its writes
  pub burst_writes_lem : (file : RegisterFile) (offset : ℕ) (values : List ℕ)
      → write_burst access file offset values ≡ write_each access file (burst_writes offset values)
  unfolding write_burst
  burst_writes_lem file offset values = refl

  -- no writes, and writes after other writes
  pub writes_none : (file : RegisterFile) → write_each access file [] ≡ file
  unfolding write_each
  writes_none file = refl

  pub writes_append : (file : RegisterFile) (a b : List RegisterWrite)
      → write_each access file (a ++ b) ≡ write_each access (write_each access file a) b
  unfolding write_each
  writes_append file [] b = refl
  writes_append file (write ∷ a) b = writes_append (write_register access file write.offset write.value) a b
