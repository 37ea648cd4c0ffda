use Rattle.std.proofs.Common.{◌≡◌, ◌≤◌, length, drop}
use Rattle.tracetext.specs.TextWindows.{list_state_at}
use Rattle.tracetext.proofs.RecordLaws.{todo}
use Rattle.tracetext.proofs.WindowLaws.{OnTheWay}
use Rattle.tracetext.proofs.text_window.Given as goal

abbrev pub invariant-loop-left : goal.invariant-loop-left
invariant-loop-left l =
    (l.used ≤ length l.window) × (length l.out ≡ length l.initial.out) × (l.at ≤ length l.initial.out → l.next ≤ length l.out)
    × OnTheWay l.last (list_state_at l.initial.run l.window l.initial.out l.at) (list_state_at l.run (drop l.used l.window) l.out l.next)

abbrev pub decreases-loop-left : goal.decreases-loop-left
decreases-loop-left l = todo (list_state_at l.run (drop l.used l.window) l.out l.next)
