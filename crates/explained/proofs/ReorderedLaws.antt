-- A script whose blocks may change their order ends alike with them in any other: its writes, and the player's run.
-- Assumes nothing.
use mathlib.Core.Path.{◌≡◌, sym, ap, ◌∙◌}
use mathlib.Core.List.{List, ◌++◌}
use Prim.Native.Nat.{ℕ}
use Rattle.laws.specs.Reply.{given, on_reply}
use Rattle.laws.proofs.Replies.{given_same}
use Rattle.registers.specs.declared.power_up.PowerUp.{PowerUp}
use Rattle.hub.specs.declared.Hub.{Hub}
use Rattle.hub.specs.Hubs.{ArrayLengths, hub_with, hub_at}
use Rattle.hub.proofs.Hubs.{start_lengths}
use Rattle.setup.specs.Demand3.{Alike}
use Rattle.origins.specs.declared.NumberedWrite.{NumberedWrite}
use Rattle.origins.specs.NumberedWrites.{unnumbered_writes}
use Rattle.origins.specs.Origins.{FileOfBytes}
use Rattle.origins.proofs.FileBytes.{power_up_of_bytes}
use Rattle.ordering.specs.Layouts.{joined_blocks, run_writes}
use Rattle.ordering.proofs.LayoutEvery.{any_order_exact}
use Rattle.ordering.proofs.Reordered.{run_registers, same_run, any_order_holds}
use Rattle.script.specs.Reading.{script_trace}
use Rattle.script.proofs.GrammarLaws.{scripts_taken, exactly_such_texts}
use Rattle.scriptwrites.specs.NumberedCalls.{numbered_calls}
use Rattle.scriptwrites.proofs.NumberedCalls.{numbers_forgotten}
use Rattle.playback.specs.Playing.{end_hub}
use Rattle.roundtrip.proofs.RunLaws.{calls_are_played}
use Rattle.explained.specs.Reordered.{InOtherOrder, ScriptReordered}

-- the player's run of a script is that of its writes from the hub as it starts
played_run : (address : ℕ) (start : PowerUp) (text : List ℕ) (room : ℕ) (trace : List ℕ) (writes : List NumberedWrite)
    → numbered_calls text ≡ given writes → script_trace address start text room ≡ given trace
    → end_hub trace ≡ run_writes (hub_at start address) writes
unfolding hub_with
played_run address start text room trace writes e made =
    let such = (exactly_such_texts address start text room trace).only made in
    let read = sym (numbers_forgotten text) ∙ ap (on_reply unnumbered_writes) e in
    let calls = given_same ((scripts_taken text such.calls).every such.script) read in
    rw (such.made, calls, run_registers (hub_at start address) writes)
    (calls_are_played address start (unnumbered_writes writes) such.allowed)

-- from any hub the writes of both end alike
runs_alike : {writes others : List NumberedWrite} → InOtherOrder writes others
    → (hub : Hub) → ArrayLengths hub → FileOfBytes hub.registers
    → Alike (run_writes hub writes) (run_writes hub others)
runs_alike {writes} {others} order hub lengths of_bytes =
    let layout = order.layout in
    rw (same_run hub others (layout.start ++ (joined_blocks order.blocks ++ layout.end)) order.written)
    (any_order_holds hub lengths of_bytes writes layout order.blocks order.reordered)

start_bytes : (start : PowerUp) (address : ℕ) → FileOfBytes (hub_at start address).registers
unfolding hub_with
start_bytes start address = power_up_of_bytes start

pub script_reordered : ScriptReordered
script_reordered text writes read decided =
    record {
      layout = (any_order_exact writes).only decided;
      alike = λ other others otherRead order.
          record {
            from_every_start = runs_alike order;
            played = λ address start room otherRoom trace otherTrace made otherMade.
                rw (
                  played_run address start text room trace writes read made,
                  played_run address start other otherRoom otherTrace others otherRead otherMade,
                )
                (runs_alike order (hub_at start address) (start_lengths start address) (start_bytes start address));
          };
    }
