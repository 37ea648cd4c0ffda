-- What a script is: lines of L1's grammar, each with its line feed.
-- Assumes nothing.
use Rattle.std.specs.Prelude.{◌≡◌, Bool, true, not, List, [], ◌∷◌, ◌++◌, ℕ, ◌≤◌, eqb, length}
use Rattle.registers.specs.Bursts.{RegisterWrite}
use Rattle.calls.specs.Grammar.{all, IsScriptLine}

-- "Each line ends in one line feed" (code 10): none stands inside a line
abbrev pub no_line_feed : List ℕ → Bool
no_line_feed line = all (λ byte. not (eqb byte 10)) line

-- "over 200 bytes" is refused
abbrev pub longest_script_line : ℕ
longest_script_line = 200

-- A script, with its calls in order: lines that each end in one line feed, "not counted", none "over 200 bytes".
pub data Script : List ℕ → List RegisterWrite → Type 0 where
  no_lines : Script [] []
  more_lines : (line text : List ℕ) (here later : List RegisterWrite)
      → IsScriptLine line here → no_line_feed line ≡ true → length line ≤ longest_script_line
      → Script text later → Script (line ++ (10 ∷ text)) (here ++ later)
