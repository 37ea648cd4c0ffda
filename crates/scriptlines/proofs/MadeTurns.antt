-- A turn of the source is the definition's.
-- Assumes nothing.
use Rattle.std.proofs.Common.{◌≡◌, ℕ, Bool, List, length, take, drop, sym, refl, ap, ◌∙◌, arith, length-drop, length-take}
use Rattle.laws.specs.Buffers.{written}
use Rattle.streams.specs.declared.Window.{Window}
use Rattle.streams.specs.Streams.{after_read, nothing_left}
use Rattle.scriptlines.specs.declared.LinesTaken.{LinesTaken}
use Rattle.scriptlines.specs.declared.ScriptFile.{ScriptFile}
use Rattle.scriptlines.specs.TakenLines.{done_of, lines_state_at, TakesLines}
use Rattle.scriptlines.specs.ScriptFiles.{line_refused, MakesScriptTurn}

pub makes_turn : (file : ScriptFile) (got : ℕ) (buffer out : List ℕ) {window : Window} {count : ℕ} {done : Bool} {taken : LinesTaken}
    {buffer_after outAfter : List ℕ} → window ≡ after_read file.window got (length buffer)
    → TakesLines window.last (lines_state_at (done_of file.run) (take window.held buffer) out 0) taken outAfter
    → count ≡ length (drop taken.used (take window.held buffer))
    → buffer_after ≡ written buffer 0 (drop taken.used (take window.held buffer))
    → done ≡ nothing_left (line_refused (done_of taken.run)) window.last count
    → MakesScriptTurn file got buffer out
    (record { file = record { run = taken.run; window = record { held = count; last = window.last } }; end = taken.next; done = done })
    buffer_after outAfter
makes_turn file got buffer out {window} {taken} e takes c w d =
    let bytes = take window.held buffer in
    let size = length-drop taken.used bytes in
    let few = length-take window.held buffer in
    let last = window.last in
    rw (sym (ap (λ (v : Window). v.held) e), sym (ap (λ (v : Window). v.last) e), sym takes.state)
    (record {
      run = refl;
      window = ap (λ (n : ℕ). record { held = n; last = last }) c;
      left = w;
      fits = omega arith;
      records = refl;
      end = refl;
      inside = takes.place (omega arith);
      done = d ∙ ap (nothing_left (line_refused (done_of taken.run)) last) c;
    })
