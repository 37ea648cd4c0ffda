-- What is found where ports share something: `same-channel` and `same-address`.
-- Assumes nothing.
use Rattle.std.specs.Prelude.{◌≡◌, Bool, true, false, cond, List, [], ◌⊎◌, ℕ, Option, None, Some}
use Rattle.ports.specs.PortMasks.{several_ports}
use Rattle.endstate.specs.declared.findings.Grade.{Grade}
use Rattle.endstate.specs.declared.findings.Grade.TheVariants.{Meant, Wrong}
use Rattle.endstate.specs.declared.findings.Clash.{Clash}
use Rattle.endstate.specs.RisingLines.{rising_lines, one_line, OneLine}
use Rattle.endstate.specs.LineRows.{lines_row}

-- a finding, with its grade, the mask of its ports and its lines; where there is none, it has no grade
pub record ClashFinding : Type 0 where
  pub grade : Option Grade
  pub ports : ℕ
  pub lines : List ℕ

abbrev pub nothing_found : ClashFinding
nothing_found = record { grade = None; ports = 0; lines = [] }

-- "Meant, where all of these have one and the same line as origin, or" it is asked for; "else wrong"
abbrev pub grade_by : List ℕ → Bool → Grade
grade_by origins asked = cond asked Meant (cond (one_line origins) Meant Wrong)

-- "two or more": what is found of the ports that share something, by the origins of what they share
unfoldable pub shared_by : ℕ → List ℕ → Bool → ClashFinding
shared_by ports origins asked =
    cond (several_ports ports)
    (record { grade = Some (grade_by origins asked); ports = ports; lines = rising_lines origins })
    nothing_found

-- a finding as the source holds it
abbrev pub clash_graded : Option Grade → ℕ → List ℕ → Option Clash
clash_graded None ports lines = None
clash_graded (Some grade) ports lines = Some (record { grade = grade; ports = ports; lines = lines_row lines })

abbrev pub clash_of : ClashFinding → Option Clash
clash_of finding = clash_graded finding.grade finding.ports finding.lines

-- there is a finding
abbrev pub is_graded : Option Grade → Bool
is_graded None = false
is_graded (Some grade) = true

abbrev pub is_found : ClashFinding → Bool
is_found finding = is_graded finding.grade

-- What a finding says. Its lines are those among the origins, which `EveryLine` says.
pub record SharedMeans (mask : ℕ) (origins : List ℕ) (asked : Bool) : Type 0 where
  pub found : is_found (shared_by mask origins asked) ≡ several_ports mask
  pub nothing : several_ports mask ≡ false → shared_by mask origins asked ≡ nothing_found
  pub ports : several_ports mask ≡ true → (shared_by mask origins asked).ports ≡ mask
  pub lines : several_ports mask ≡ true → (shared_by mask origins asked).lines ≡ rising_lines origins
  pub meant_only : (shared_by mask origins asked).grade ≡ Some Meant → (asked ≡ true) ⊎ OneLine origins
  pub meant_every : several_ports mask ≡ true → (asked ≡ true) ⊎ OneLine origins
      → (shared_by mask origins asked).grade ≡ Some Meant

abbrev pub EverySharing : Type 0
EverySharing = (mask : ℕ) (origins : List ℕ) (asked : Bool) → SharedMeans mask origins asked
