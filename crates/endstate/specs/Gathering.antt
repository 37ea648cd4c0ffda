-- How the source gathers origins one by one: no rule of the papers.
-- Assumes nothing.
use Rattle.std.specs.Prelude.{Bool, true, false, cond, not, ◌&&◌, List, [], ◌∷◌, ℕ, eqb, length, Option, None, Some}
use Rattle.ports.specs.PortMasks.{several_ports}
use Rattle.endstate.specs.declared.findings.Grade.{Grade}
use Rattle.endstate.specs.declared.findings.Grade.TheVariants.{Meant, Wrong}
use Rattle.endstate.specs.declared.findings.Clash.{Clash}
use Rattle.endstate.specs.declared.gathering.Gathered.{Gathered}
use Rattle.endstate.specs.RisingLines.{rising_lines, with_line}
use Rattle.endstate.specs.LineRows.{lines_of, lines_row}

-- one of the numbers is 0, no line
unfoldable pub some_unset : List ℕ → Bool
some_unset [] = false
some_unset (number ∷ numbers) = cond (eqb number 0) true (some_unset numbers)

-- what is kept of some numbers
unfoldable pub gathered_of : List ℕ → Gathered
gathered_of numbers = record { lines = lines_row (rising_lines numbers); unset = some_unset numbers }

-- with one more
unfoldable pub with_origin : ℕ → Gathered → Gathered
with_origin number gathered =
    record {
      lines = lines_row (with_line number (lines_of gathered.lines));
      unset = cond (eqb number 0) true gathered.unset;
    }

-- one line, and no number without one
abbrev pub gathered_one : Gathered → Bool
gathered_one gathered = not gathered.unset && eqb (length (lines_of gathered.lines)) 1

abbrev pub grade_gathered : Gathered → Bool → Grade
grade_gathered gathered asked = cond asked Meant (cond (gathered_one gathered) Meant Wrong)

-- what is found of the ports that share something, by what is kept
unfoldable pub clash_by : ℕ → Gathered → Bool → Option Clash
clash_by ports gathered asked =
    cond (several_ports ports)
    (Some (record { grade = grade_gathered gathered asked; ports = ports; lines = gathered.lines }))
    None
