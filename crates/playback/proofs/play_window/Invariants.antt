use Rattle.std.proofs.Common.{◌≡◌, ◌≤◌, length, drop}
use Rattle.playback.specs.Windows.{state_at}
use Rattle.playback.proofs.WindowLaws.{OnTheWay}
use Rattle.playback.proofs.play_window.Given as goal

abbrev pub invariant-loop-left : goal.invariant-loop-left
invariant-loop-left l =
    (l.used ≤ length l.window) × (length l.packets ≡ length l.initial.packets) × (length l.out ≡ length l.initial.out) × (l.at ≤ length l.initial.out → l.next ≤ length l.out)
    × OnTheWay l.last (state_at l.initial.session l.window l.initial.packets l.initial.out l.at) (state_at l.session (drop l.used l.window) l.packets l.out l.next)

abbrev pub decreases-loop-left : goal.decreases-loop-left
decreases-loop-left l = length (drop l.used l.window)
