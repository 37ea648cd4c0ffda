-- A turn of the source is the definition's.
-- Assumes nothing.
use mathlib.Core.Path.{◌≡◌, refl, sym, ap, ◌∙◌}
use mathlib.Core.Bool.{Bool}
use mathlib.Core.List.{List}
use Prim.Native.Nat.{ℕ}
use native.Mathlib.Omega.{arith}
use lib.ListN.{length, take, drop, length-take, length-drop}
use Rattle.laws.specs.Buffers.{written}
use Rattle.streams.specs.declared.Window.{Window}
use Rattle.streams.specs.Streams.{after_read, nothing_left}
use Rattle.playback.specs.declared.WindowPlayed.{WindowPlayed}
use Rattle.playback.specs.Windows.{state_at, PlaysWindow}
use Rattle.turns.specs.declared.FileRun.{FileRun}
use Rattle.turns.specs.Turns.{MakesTurn}

pub makes_turn : (run : FileRun) (got : ℕ) (buffer packets out : List ℕ) {window : Window} {count : ℕ} {done : Bool} {played : WindowPlayed}
    {buffer_after packetsAfter outAfter : List ℕ} → window ≡ after_read run.window got (length buffer)
    → PlaysWindow window.last (state_at run.session (take window.held buffer) packets out 0) played packetsAfter outAfter
    → count ≡ length (drop played.used (take window.held buffer))
    → buffer_after ≡ written buffer 0 (drop played.used (take window.held buffer))
    → done ≡ nothing_left played.session.ended window.last count
    → MakesTurn run got buffer packets out
    (record { run = record { session = played.session; window = record { held = count; last = window.last } }; end = played.next; done = done })
    buffer_after packetsAfter outAfter
makes_turn run got buffer packets out {window} {played} e plays c w d =
    let bytes = take window.held buffer in
    let size = length-drop played.used bytes in
    let few = length-take window.held buffer in
    let last = window.last in
    rw (sym (ap (λ (v : Window). v.held) e), sym (ap (λ (v : Window). v.last) e), sym plays.state)
    (record {
      session = refl;
      window = ap (λ (n : ℕ). record { held = n; last = last }) c;
      left = w;
      fits = omega arith;
      packet_buffer = refl;
      text = refl;
      end = refl;
      inside = plays.place (omega arith);
      done = d ∙ ap (nothing_left played.session.ended last) c;
    })
