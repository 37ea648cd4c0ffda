-- A turn of the source is the definition's.
-- Assumes nothing.
use Rattle.std.proofs.Common.{◌≡◌, ℕ, Bool, List, length, take, drop, sym, refl, ap, ◌∙◌, arith, length-drop, length-take}
use Rattle.laws.specs.Buffers.{written}
use Rattle.streams.specs.declared.Window.{Window}
use Rattle.streams.specs.Streams.{after_read, nothing_left}
use Rattle.tracetext.specs.declared.TextListed.{TextListed}
use Rattle.tracetext.specs.declared.TextFile.{TextFile}
use Rattle.tracetext.specs.TextWindows.{is_text_refusal, list_state_at, ListsWindow}
use Rattle.tracetext.specs.TextFiles.{MakesTextTurn}

pub makes_turn : (file : TextFile) (got : ℕ) (buffer out : List ℕ) {window : Window} {count : ℕ} {over done : Bool} {taken : TextListed}
    {buffer_after outAfter : List ℕ} → window ≡ after_read file.window got (length buffer)
    → ListsWindow window.last (list_state_at file.run (take window.held buffer) out 0) taken outAfter
    → count ≡ length (drop taken.used (take window.held buffer))
    → buffer_after ≡ written buffer 0 (drop taken.used (take window.held buffer))
    → over ≡ is_text_refusal taken.run.refusal
    → done ≡ nothing_left over window.last count
    → MakesTextTurn file got buffer out
    (record { file = record { run = taken.run; window = record { held = count; last = window.last } }; end = taken.next; done = done })
    buffer_after outAfter
makes_turn file got buffer out {window} {over} {taken} e lists c w o d =
    let bytes = take window.held buffer in
    let size = length-drop taken.used bytes in
    let few = length-take window.held buffer in
    let last = window.last in
    rw (sym (ap (λ (v : Window). v.held) e), sym (ap (λ (v : Window). v.last) e), sym lists.state)
    (record {
      run = refl;
      window = ap (λ (n : ℕ). record { held = n; last = last }) c;
      left = w;
      fits = omega arith;
      text = refl;
      end = refl;
      inside = lists.place (omega arith);
      done = d ∙ rw (o, c);
    })
