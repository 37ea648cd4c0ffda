-- The loop's invariant: no byte so far is a line feed.
use mathlib.Core.Path.{◌≡◌}
use mathlib.Core.Bool.{true}
use lib.ListN.{take}
use Rattle.script.specs.Grammar.{no_line_feed}
use Rattle.script.proofs.text.line_length.Given as goal

abbrev pub invariant-loop-place : goal.invariant-loop-place
invariant-loop-place l = no_line_feed (take l.place l.text) ≡ true
