-- A turn of the source is the definition's.
-- Assumes nothing.
use mathlib.Core.Path.{◌≡◌, refl, sym, ap, ◌∙◌}
use mathlib.Core.Bool.{Bool}
use mathlib.Core.List.{List}
use Prim.Native.Nat.{ℕ}
use native.Mathlib.Omega.{arith}
use lib.ListN.{length, take, drop, length-take, length-drop}
use Rattle.laws.specs.Buffers.{written}
use Rattle.streams.specs.declared.Window.{Window}
use Rattle.streams.specs.Streams.{after_read, nothing_left}
use Rattle.tracewrites.specs.declared.RecordTaken.{RecordTaken}
use Rattle.tracewrites.specs.declared.TraceFile.{TraceFile}
use Rattle.tracewrites.specs.RecordTurns.{is_trace_refusal, taken_with, take_next, MakesRecordTurn}

pub makes_turn : (file : TraceFile) (got : ℕ) (buffer lent : List ℕ) {window : Window} {count : ℕ} {over done : Bool} {taken : RecordTaken}
    {buffer_after valuesAfter : List ℕ} → window ≡ after_read file.window got (length buffer)
    → taken_with taken valuesAfter ≡ take_next window.last file.records file.refusal (take window.held buffer) lent
    → count ≡ length (drop taken.used (take window.held buffer))
    → buffer_after ≡ written buffer 0 (drop taken.used (take window.held buffer))
    → over ≡ is_trace_refusal taken.refusal
    → done ≡ nothing_left over window.last count
    → MakesRecordTurn file got buffer lent
    (record {
      file = record { records = taken.records; refusal = taken.refusal; window = record { held = count; last = window.last } };
      next = taken.next;
      done = done;
    })
    buffer_after valuesAfter
makes_turn file got buffer lent {window} {over} {taken} e takes c w o d =
    let bytes = take window.held buffer in
    let size = length-drop taken.used bytes in
    let few = length-take window.held buffer in
    let last = window.last in
    rw (sym (ap (λ (v : Window). v.held) e), sym (ap (λ (v : Window). v.last) e), sym takes)
    (record {
      records = refl;
      refusal = refl;
      window = ap (λ (n : ℕ). record { held = n; last = last }) c;
      next = refl;
      left = w;
      fits = omega arith;
      values = refl;
      done = d ∙ rw (o, c);
    })
