-- The definition of specs/Findings.antt by its cases, and what it means.
-- Assumes nothing.
use Rattle.std.specs.Prelude.{Option, None, Some}
use mathlib.Core.Path.{◌≡◌, refl}
use mathlib.Core.Bool.{Bool, true, false, cond}
use mathlib.Core.List.{List, []}
use mathlib.Core.Logic.{◌⊎◌, inl, inr}
use Prim.Native.Nat.{ℕ, ◌≤◌}
use native.Mathlib.Omega.{arith}
use lib.ListN.{length}
use Rattle.laws.proofs.Absurd.{zero_not_one}
use Rattle.ports.specs.PortMasks.{several_ports}
use Rattle.endstate.specs.declared.findings.Grade.{Grade}
use Rattle.endstate.specs.declared.findings.Grade.TheVariants.{Meant, Wrong}
use Rattle.endstate.specs.RisingLines.{rising_lines, one_line, OneLine}
use Rattle.endstate.specs.LineRows.{RowHas}
use Rattle.endstate.specs.Findings.{grade_by, shared_by, SharedMeans, EverySharing}
use Rattle.endstate.proofs.LineRows.{row_holds}
use Rattle.endstate.proofs.OneLine.{one_line_exact}

-- meant exactly where it is asked for, or all origins are one line
module _ (origins : List ℕ) where
  meant_only_lem : (asked : Bool) → grade_by origins asked ≡ Meant → (asked ≡ true) ⊎ OneLine origins
  meant_only_lem true e = inl refl
  meant_only_lem false e = go (one_line origins) refl e
    where
      go : (b : Bool) → one_line origins ≡ b → cond b Meant Wrong ≡ Meant → (false ≡ true) ⊎ OneLine origins
      go true q m = inr ((one_line_exact origins).only q)
      go false q m = zero_not_one (cc)

  meant_every_lem : (asked : Bool) → (asked ≡ true) ⊎ OneLine origins → grade_by origins asked ≡ Meant
  meant_every_lem true h = refl
  meant_every_lem false (inl e) = zero_not_one (cc)
  meant_every_lem false (inr o) = rw ((one_line_exact origins).every o)

module _ (mask : ℕ) (origins : List ℕ) (asked : Bool) where
  shared_means : (b : Bool) → several_ports mask ≡ b → SharedMeans mask origins asked
  unfolding shared_by
  shared_means true q =
      record {
        found = rw q;
        nothing = λ e. zero_not_one (cc);
        ports = λ e. rw q;
        lines = λ e. rw q;
        meant_only = λ e. meant_only_lem origins asked (let m = rw q at e in cc);
        meant_every = λ e h. rw (q, meant_every_lem origins asked h);
      }
  shared_means false q =
      record {
        found = rw q;
        nothing = λ e. rw q;
        ports = λ e. zero_not_one (cc);
        lines = λ e. zero_not_one (cc);
        meant_only = λ e. (let m : ◌≡◌ {A = Option Grade} None (Some Meant) = rw q at e in zero_not_one (cc));
        meant_every = λ e h. zero_not_one (cc);
      }

pub every_sharing : EverySharing
every_sharing mask origins asked = shared_means mask origins asked (several_ports mask) refl

-- all its lines have their place in a row
module _ (mask : ℕ) (origins : List ℕ) (asked : Bool) (few : length origins ≤ 12) where
  pub shared_held : RowHas (shared_by mask origins asked).lines
  unfolding shared_by rising_lines
  shared_held = go (several_ports mask) refl
    where
      go : (b : Bool) → several_ports mask ≡ b → RowHas (shared_by mask origins asked).lines
      go true e = rw e (row_holds origins few)
      go false e = rw e (row_holds [] (omega arith))
