use Rattle.std.proofs.Common.{◌≡◌, ◌≤◌, length, drop}
use Rattle.scriptlines.specs.TakenLines.{done_of, lines_state_at}
use Rattle.scriptlines.proofs.LineLaws.{to_take, OnTheWay}
use Rattle.scriptlines.proofs.take_lines.Given as goal

abbrev pub invariant-loop-left : goal.invariant-loop-left
invariant-loop-left l =
    (l.used ≤ length l.window) × (length l.out ≡ length l.initial.out) × (l.at ≤ length l.initial.out → l.next ≤ length l.out)
    × OnTheWay l.last (lines_state_at (done_of l.initial.run) l.window l.initial.out l.at) (lines_state_at (done_of l.run) (drop l.used l.window) l.out l.next)

abbrev pub decreases-loop-left : goal.decreases-loop-left
decreases-loop-left l = to_take (lines_state_at (done_of l.run) (drop l.used l.window) l.out l.next)
