-- Writes whose offsets and values are bytes: those of a burst of bytes, and some after others.
-- Assumes nothing.
use mathlib.Core.List.{List, [], ◌∷◌, ◌++◌}
use Prim.Native.Nat.{ℕ, suc, ◌<◌}
use native.Mathlib.Omega.{arith}
use Rattle.laws.specs.Elements.{AreBytes}
use Rattle.registers.specs.Bursts.{RegisterWrite, next_offset, burst_writes}

abbrev pub AreByteWrites : List RegisterWrite → Type 0
AreByteWrites [] = Unit {0}
AreByteWrites (write ∷ writes) = (write.offset < 256) × (write.value < 256) × AreByteWrites writes

pub burst_bytes : (offset : ℕ) (values : List ℕ) → offset < 256 → AreBytes values → AreByteWrites (burst_writes offset values)
unfolding burst_writes
burst_bytes offset [] h bytes = tt
burst_bytes offset (value ∷ values) h bytes = (h, bytes 0, burst_bytes (next_offset offset) values (omega arith) (λ i. bytes (suc i)))

pub more_bytes : (a b : List RegisterWrite) → AreByteWrites a → AreByteWrites b → AreByteWrites (a ++ b)
more_bytes [] b p q = q
more_bytes (write ∷ a) b p q = (p.0, p.1, more_bytes a b p.2 q)
