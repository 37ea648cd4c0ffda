-- A script's lines, and a trace's records, explain what the registers hold at the end.
-- Assumes nothing.
use mathlib.Core.Path.{◌≡◌, refl, sym, ap, ◌∙◌}
use mathlib.Core.List.{List}
use mathlib.Core.Option.{Option}
use Prim.Native.Nat.{ℕ, ◌≤◌}
use lib.ListN.{length}
use Rattle.laws.specs.Reply.{on_reply}
use Rattle.registers.specs.declared.power_up.PowerUp.{PowerUp}
use Rattle.registers.specs.PowerUps.{power_up_file}
use Rattle.hub.specs.declared.Hub.{Hub}
use Rattle.hub.specs.Hubs.{hub_with}
use Rattle.origins.specs.declared.NumberedWrite.{NumberedWrite}
use Rattle.origins.specs.NumberedWrites.{unnumbered_writes, NumbersMean}
use Rattle.origins.specs.Origins.{Register, IsRegister, value_at, after_each, origin_of, LastReaching, value_from}
use Rattle.origins.specs.KeptOrigins.{kept_number}
use Rattle.origins.proofs.Reaching.{reached_offset}
use Rattle.origins.proofs.Origins.{origin_explains}
use Rattle.origins.proofs.LastWrites.{last_among, every_origin_is_last}
use Rattle.origins.proofs.KeptOrigins.{every_origin_kept}
use Rattle.origins.proofs.KeptNumbers.{every_number_means}
use Rattle.origins.proofs.FileBytes.{power_up_of_bytes}
use Rattle.script.specs.Traces.{trace_of}
use Rattle.script.proofs.GrammarLaws.{scripts_taken, exactly_such_texts}
use Rattle.scriptwrites.specs.NumberedCalls.{InItsLine}
use Rattle.scriptwrites.proofs.NumberedCalls.{numbers_forgotten}
use Rattle.scriptwrites.proofs.LineNumbers.{numbers_are_lines}
use Rattle.tracewrites.specs.TraceWrites.{TraceWrites, InItsRecord}
use Rattle.tracewrites.proofs.RecordNumbers.{numbers_are_records}
use Rattle.roundtrip.proofs.RunLaws.{calls_are_played}
use Rattle.playedwrites.specs.PlayedWrites.{PlaysTo}
use Rattle.playedwrites.proofs.PlayedLaws.{writes_are_played}
use Rattle.explained.specs.Explained.{kept_after, write_to, SetBy, Explained, EndExplained}
use Rattle.explained.specs.Explained.{ScriptExplained, TraceExplained}

-- writes that stand in lines or records, which are counted from 1
module _ (Stands : NumberedWrite → Type 0) (counted : (write : NumberedWrite) → Stands write → 1 ≤ write.number)
    (start : PowerUp) (writes : List NumberedWrite) (numbers : NumbersMean Stands writes)
    (register : Register) (h : IsRegister register) where
  abbrev held : ℕ
  held = value_at (after_each (power_up_file start) writes) register

  -- what the register holds, by its origin
  by_origin : {origin : Option NumberedWrite} → origin_of (power_up_file start) writes register ≡ origin
      → held ≡ value_from origin register (value_at (power_up_file start) register)
  by_origin e = rw e at (origin_explains (power_up_file start) (power_up_of_bytes start) writes register h)

  -- the last write that reached it
  set_by : (write : NumberedWrite) → LastReaching (power_up_file start) writes register write
      → SetBy Stands start writes register write.number held
  set_by write last =
      let own = reached_offset (after_each (power_up_file start) last.earlier) write.offset register last.reaching in
      let same : write ≡ write_to register write.number write.value =
      ap (λ (o : ℕ). record { number = write.number; offset = o; value = write.value }) (sym own) in
      record {
        value = write.value;
        stands = rw same at (numbers.only write (last_among last));
        last = rw same at last;
        holds = by_origin ((every_origin_is_last (power_up_file start) writes register).every_last write last);
      }

  explained : Explained Stands start writes register (kept_number (kept_after start writes) register) held
  explained =
      let means = every_number_means (power_up_file start) writes (λ write m. counted write (numbers.only write m)) register h in
      record {
        only_unset = means.only_none;
        every_unset = means.every_none;
        unset = λ z. by_origin ((every_origin_is_last (power_up_file start) writes register).every_none (means.only_none z));
        set = λ some. let last = means.only_last some in rw (sym last.2) (set_by last.0 last.1);
      }

-- and the trace that plays to them
end_explained : (Stands : NumberedWrite → Type 0) → ((write : NumberedWrite) → Stands write → 1 ≤ write.number)
    → (trace : List ℕ) (taken : TraceWrites) → NumbersMean Stands taken.writes → PlaysTo trace taken
    → EndExplained Stands trace taken
end_explained Stands counted trace taken numbers plays =
    record {
      address = plays.address;
      registers = plays.registers ∙ sym (every_origin_kept (power_up_file taken.start) taken.writes).registers;
      each = λ register h. rw plays.registers (explained Stands counted taken.start taken.writes numbers register h);
    }

-- the trace of a script is that of its calls
pub script_explained : ScriptExplained
unfolding hub_with
script_explained address start text writes allowed e =
    let calls = unnumbered_writes writes in
    let trace = trace_of address start calls in
    let read = sym (numbers_forgotten text) ∙ ap (on_reply unnumbered_writes) e in
    let end = calls_are_played address start calls allowed in
    record {
      trace = trace;
      made = λ room (h : length trace ≤ room).
          (exactly_such_texts address start text room trace).every
          (record {
            calls = calls;
            script = (scripts_taken text calls).only read;
            made = refl;
            allowed = allowed;
            room = h;
          });
      explained =
          end_explained (InItsLine text) (λ write i. i.counted) trace (record { hub = address; start = start; writes = writes })
          (numbers_are_lines text writes e)
          (record {
            address = ap (λ (hub : Hub). hub.address) end;
            registers = ap (λ (hub : Hub). hub.registers) end;
          });
    }

pub trace_explained : TraceExplained
trace_explained trace taken e =
    end_explained (InItsRecord trace) (λ write i. i.counted) trace taken (numbers_are_records trace taken e)
    (writes_are_played trace taken e)
