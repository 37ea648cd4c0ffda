-- What each case of an effect means, by the register file's own write.
-- Assumes nothing.
use Rattle.std.proofs.Common.{◌≡◌, ℕ, ◌<◌, Bool, true, false, cond, eqb, sym, refl, ap, ◌∙◌, arith, lit<, eq-eqb, eqb-true}
use borrow.Author.Tests.{eqb-false}
use Rattle.laws.specs.Bits.{bit}
use Rattle.laws.specs.MaskedWrites.{masked}
use Rattle.laws.proofs.Absurd.{zero_not_one}
use Rattle.laws.proofs.MaskedWrites.{masked_bit}
use Rattle.laws.proofs.Tables.{all_below, true_below}
use Rattle.registers.specs.declared.RegisterFile.{RegisterFile}
use Rattle.registers.specs.declared.PageAccess.TheVariants.{Selection}
use Rattle.registers.specs.RegisterMap.{rows, row_in, mask_of, per_port, FPD3_PORT_SEL}
use Rattle.registers.specs.RegisterFiles.{selection, write_register}
use Rattle.ports.specs.PortMasks.{port_mask}
use Rattle.ports.proofs.PortMasks.{mask_bits, empty_mask}
use Rattle.origins.specs.Origins.{Register, shared_register, port_register, IsRegister}
use Rattle.origins.specs.Origins.{value_at, reaches, FileOfBytes}
use Rattle.origins.specs.Effects.{changes, ports_effect, shared_effect, effect_of}
use Rattle.origins.specs.Effects.{TickedPort, EffectMeans, EveryEffectMeans, ChangedWhereReached}
use Rattle.origins.proofs.Reaching.{reaches_none, reaches_unticked, reaches_shared, no_shared, reaches_ports}
use Rattle.origins.proofs.OneWrite.{mask_byte, written_where_reached}
use Rattle.origins.proofs.EffectLaws.{effect_none, effect_ports, effect_shared}
use Rattle.origins.proofs.EffectLaws.{ports_none, ports_some, shared_selected, shared_other}

-- RX_WRITE_PORT_3 to 0 are writable, so a write of the selection ticks the ports that its value ticks
ports_writable : (port : ℕ) → port < 4 → bit port (mask_of FPD3_PORT_SEL) ≡ true
unfolding all_below bit mask_of row_in rows
ports_writable port h = true_below (λ p. bit p (mask_of FPD3_PORT_SEL)) 4 tt port h

selects : (file : RegisterFile) → FileOfBytes file → (value : ℕ)
    → reaches file FPD3_PORT_SEL (shared_register FPD3_PORT_SEL) ≡ true → (port : ℕ) → port < 4
    → bit port (selection (write_register Selection file FPD3_PORT_SEL value)) ≡ bit port value
selects file f value r port h =
    let held : selection (write_register Selection file FPD3_PORT_SEL value)
    ≡ masked (mask_of FPD3_PORT_SEL) (selection file) value =
    written_where_reached file f FPD3_PORT_SEL value (shared_register FPD3_PORT_SEL) (lit< tt) ∙ rw r in
    ap (bit port) held
    ∙ masked_bit (mask_of FPD3_PORT_SEL) (mask_byte FPD3_PORT_SEL (lit< tt)) port (selection file) value (omega arith)
    ∙ ap (λ (b : Bool). cond b (bit port value) (bit port (selection file))) (ports_writable port h)

-- a port that is ticked, where not all four are unticked
ticked_port : (file : RegisterFile) → (port_mask (λ port. bit port (selection file)) ≡ 0 → ⊥) → TickedPort file
unfolding port_mask
ticked_port file some = go (ticked 0) (ticked 1) (ticked 2) (ticked 3) refl refl refl refl
  where
    ticked : ℕ → Bool
    ticked port = bit port (selection file)

    at : (port : ℕ) → port < 4 → ticked port ≡ true → TickedPort file
    at port h e = record { port = port; within = h; ticked = e }

    go : (a b c d : Bool) → ticked 0 ≡ a → ticked 1 ≡ b → ticked 2 ≡ c → ticked 3 ≡ d → TickedPort file
    go true b c d e0 e1 e2 e3 = at 0 (lit< tt) e0
    go false true c d e0 e1 e2 e3 = at 1 (lit< tt) e1
    go false false true d e0 e1 e2 e3 = at 2 (lit< tt) e2
    go false false false true e0 e1 e2 e3 = at 3 (lit< tt) e3
    go false false false false e0 e1 e2 e3 = absurd (some (rw (e0, e1, e2, e3)))

module _ (file : RegisterFile) (f : FileOfBytes file) (offset value : ℕ) where
  kept : (register : Register) → IsRegister register → reaches file offset register ≡ false
      → value_at (write_register Selection file offset value) register ≡ value_at file register
  kept register h e = written_where_reached file f offset value register h ∙ rw e

  means_ports : (mask_of offset ≡ 0 → ⊥) → per_port offset ≡ true
      → EffectMeans file offset value (ports_effect file offset value)
  means_ports writable p = go (eqb reached 0) refl
    where
      reached : ℕ
      reached = port_mask (λ port. bit port (selection file))

      unticked : reached ≡ 0 → (port : ℕ) → port < 4 → bit port (selection file) ≡ false
      unticked e = (empty_mask (λ port. bit port (selection file))).only e

      none : reached ≡ 0 → (register : Register) → IsRegister register → reaches file offset register ≡ false
      none e (shared_register at) h = no_shared file offset writable p at
      none e (port_register port at) h = reaches_unticked file offset port at (unticked e port h.0)

      go : (b : Bool) → eqb reached 0 ≡ b → EffectMeans file offset value (ports_effect file offset value)
      go true e =
          let z : reached ≡ 0 = eqb-true reached 0 e in
          rw (ports_none file offset value writable p refl z)
          (record { paged = p; unticked = unticked z; nothing = λ register h. kept register h (none z register h) })
      go false e =
          rw (ports_some file offset value writable p refl (eqb-false reached 0 e) refl refl refl)
          (record {
            paged = p;
            some_port = ticked_port file (eqb-false reached 0 e);
            ticked = λ port h. (mask_bits (λ q. bit q (selection file))).bits port h;
            reached = λ port h. (mask_bits (λ q. bit q (selection file))).bits port h
                ∙ sym (reaches_ports file offset writable p port);
            changed = λ port h. (mask_bits (λ q. changes file offset value (port_register q offset))).bits port h;
            ignored = refl;
          })

  means_shared : (mask_of offset ≡ 0 → ⊥) → per_port offset ≡ false
      → EffectMeans file offset value (shared_effect file offset value)
  means_shared writable p = go (eqb offset FPD3_PORT_SEL) refl
    where
      arrives : reaches file offset (shared_register offset) ≡ true
      arrives = reaches_shared file offset writable p

      go : (b : Bool) → eqb offset FPD3_PORT_SEL ≡ b → EffectMeans file offset value (shared_effect file offset value)
      go true e =
          let here : offset ≡ FPD3_PORT_SEL = eqb-true offset FPD3_PORT_SEL e in
          rw (shared_selected file offset value refl refl refl here refl)
          (record {
            at_selection = here;
            reached = arrives;
            ticked = λ port h. (mask_bits (λ q. bit q value)).bits port h
                ∙ sym (rw here (selects file f value (rw here at arrives) port h));
            changed = refl;
            ignored = refl;
          })
      go false e =
          rw (shared_other file offset value refl refl refl (eqb-false offset FPD3_PORT_SEL e))
          (record {
            not_selection = eqb-false offset FPD3_PORT_SEL e;
            reached = arrives;
            changed = refl;
            ignored = refl;
          })

  means : (m p : Bool) → eqb (mask_of offset) 0 ≡ m → per_port offset ≡ p
      → EffectMeans file offset value (effect_of file offset value)
  means true p e q =
      let z : mask_of offset ≡ 0 = eqb-true (mask_of offset) 0 e in
      rw (effect_none file offset value z)
      (record { unwritable = z; nothing = λ register h. kept register h (reaches_none file offset z register) })
  means false true e q =
      let writable = eqb-false (mask_of offset) 0 e in
      rw (effect_ports file offset value writable q) (means_ports writable q)
  means false false e q =
      let writable = eqb-false (mask_of offset) 0 e in
      rw (effect_shared file offset value writable q) (means_shared writable q)

pub every_effect_means : EveryEffectMeans
every_effect_means file f offset value = means file f offset value _ _ refl refl

pub changed_where_reached : ChangedWhereReached
changed_where_reached file f offset value register h = go (reaches file offset register) refl
  where
    go : (b : Bool) → reaches file offset register ≡ b → changes file offset value register ≡ true → b ≡ true
    go true e c = refl
    go false e c =
        let same = eq-eqb _ _ (kept file f offset value register h e) in
        zero_not_one (cc)
