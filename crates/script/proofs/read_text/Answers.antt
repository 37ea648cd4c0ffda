-- `script::read_text` meets its contract, by what counting the calls came to.
use mathlib.Core.Path.{◌≡◌, refl, sym, ◌∙◌}
use mathlib.Core.Bool.{Bool}
use mathlib.Core.List.{List}
use Prim.Native.Nat.{ℕ, ◌+◌, ◌*◌}
use native.Mathlib.Nat.{zero-add}
use borrow.Author.Tests.{leb-true}
use lib.ListN.{length}
use Rattle.laws.specs.Reply.{given, on_reply}
use Rattle.laws.specs.Buffers.{has_room}
use Rattle.laws.proofs.Buffers.{refusal, writing}
use Rattle.laws.proofs.Replies.{room_by}
use Rattle.laws.proofs.Replies.{on_given}
use Rattle.buffers.proofs.PutLaws.{whole_buffer, whole_place}
use Rattle.registers.specs.Bursts.{RegisterWrite}
use Rattle.registers.specs.declared.power_up.PowerUp.{PowerUp}
use Rattle.script.specs.Traces.{trace_of, hub_length}
use Rattle.script.specs.Reading.{script_calls}
use Rattle.script.proofs.TraceLaws.{trace_room}
use Rattle.script.proofs.read_text.Goals as goal

-- the calls that were counted, and whether their trace has room
abbrev Counted : (address : ℕ) → PowerUp → List ℕ → ℕ → Bool → Type 0
Counted address start text size has =
    (calls : List RegisterWrite) × (script_calls text ≡ given calls) × (has_room size 0 (length (trace_of address start calls)) ≡ has)

counted : (address : ℕ) (start : PowerUp) (text : List ℕ) (size count before : ℕ) (has : Bool)
    → given count ≡ on_reply length (script_calls text) → before ≡ hub_length start → has ≡ has_room size before (6 * count)
    → Counted address start text size has
counted address start text size count before has e b h =
    let found = on_given length (script_calls text) e in
    (found.0, found.1, trace_room address start size found.0 ∙ rw (sym found.2, sym b) (sym h))

pub returns-then-not-has_room_for : goal.returns-then-not-has_room_for
returns-then-not-has_room_for c =
    let x = c.args in
    let found = counted x.address x.start x.text.now (length x.out.now) _ _ _ c.in_ok-count.ensures c.hub_length.ensures.0 c.has_room_for.ensures in
    let none = found.2 ∙ c.if-not-has_room_for.true in
    rw found.1 (refusal x.out.now 0 8 (room_by (length x.out.now) 0 (trace_of x.address x.start found.0) _ refl none))

pub returns : goal.returns
returns c =
    let x = c.args in
    let found = counted x.address x.start x.text.now (length x.out.now) _ _ _ c.in_ok-count.ensures c.hub_length.ensures.0 c.has_room_for.ensures in
    let trace = trace_of x.address x.start found.0 in
    let enough = found.2 ∙ c.if-not-has_room_for.false in
    let inside = leb-true (0 + length trace) (length x.out.now) enough in
    let puts = c.put_trace.ensures found.0 found.1 in
    rw found.1
    (writing x.out.now 0 c.put_trace.result trace (room_by (length x.out.now) 0 trace _ refl enough)
    (whole_place puts inside ∙ zero-add (length trace)) (whole_buffer puts inside))
