-- The loop's invariant: the letters that were found leave what the word leaves.
use mathlib.Core.Path.{◌≡◌}
use lib.ListN.{drop}
use Rattle.calls.specs.ScriptLines.{after_prefix}
use Rattle.calls.proofs.scan.after_prefix.Given as goal

abbrev pub invariant-loop-letter : goal.invariant-loop-letter
invariant-loop-letter l = after_prefix (drop l.letter-index l.word) (drop l.place l.line) ≡ after_prefix l.word (drop l.at l.line)
