-- Text made from a trace and read again with its address and start plays to the same end state.
-- Assumes nothing.
use mathlib.Core.Path.{refl, sym, ◌∙◌}
use Prim.Native.Nat.{◌≤◌}
use lib.ListN.{length, replicate}
use Rattle.registers.specs.declared.power_up.PowerUp.TheVariants.{Boot}
use Rattle.hub.specs.Hubs.{hub_with, hub_at}
use Rattle.script.specs.Traces.{trace_of}
use Rattle.script.proofs.GrammarLaws.{exactly_such_texts}
use Rattle.listing.proofs.HubLaws.{hub_first}
use Rattle.listing.proofs.AnswerLaws.{trace_text_given}
use Rattle.playback.specs.Playing.{packet_room}
use Rattle.roundtrip.specs.SameEnd.{SameEndState}
use Rattle.roundtrip.proofs.TextLaws.{script_of}
use Rattle.roundtrip.proofs.RunLaws.{trace_runs, calls_are_played}

-- the text is a script of the trace's calls, and the trace of those calls ends as the first one does
pub same_end_state : SameEndState
unfolding hub_with
same_end_state trace text hub size bytes first e =
    let address = hub.address in
    let start = hub.start in
    let taken = trace_text_given trace size e in
    let calls = taken.0 in
    let again = trace_of address start calls in
    let runs = trace_runs trace address start (hub_first trace first) taken.1 in
    let script = rw (sym taken.2) at (script_of calls (runs.small bytes)) in
    record {
      again = again;
      read = λ room (h : length again ≤ room).
          (exactly_such_texts address start text room again).every
          (record { calls = calls; script = script; made = refl; allowed = runs.allowed; room = h });
      end =
          calls_are_played address start calls runs.allowed
          ∙ sym (runs.end (hub_at Boot 0x08) (replicate packet_room 0));
    }
