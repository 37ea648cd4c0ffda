-- What holds of both formats and of refusal 3 holds of the format of any number of bits.
-- Assumes nothing.
use mathlib.Core.Bool.{Bool, true, false, cond}
use Prim.Native.Nat.{ℕ}
use lib.Dec.{eqb}
use Rattle.laws.specs.Reply.{Reply, refused, given}
use Rattle.formats.specs.declared.Format.{Format}
use Rattle.formats.specs.Formats.{format_of}

pub by_format : (P : Reply Format → Type 0) → P (refused 3) → ((format : Format) → P (given format))
    → (bits : ℕ) → P (format_of bits)
unfolding format_of
by_format P none known bits = go (eqb bits 10) (known _) (go (eqb bits 12) (known _) none)
  where
    go : (b : Bool) {x y : Reply Format} → P x → P y → P (cond b x y)
    go true p q = p
    go false p q = q
