-- What a write does, by its cases: whether its register is followed, per-port, and for a port that is ticked.
-- Assumes nothing.
use Rattle.std.proofs.Common.{◌≡◌, ℕ, Bool, true, false, eqb, refl, ◌∙◌, eqb-true}
use borrow.Author.Tests.{eqb-false}
use Rattle.laws.specs.Bits.{bit}
use Rattle.laws.proofs.Absurd.{zero_not_one}
use Rattle.registers.specs.declared.RegisterFile.{RegisterFile}
use Rattle.registers.specs.RegisterMap.{mask_of, per_port, FPD3_PORT_SEL}
use Rattle.registers.specs.RegisterFiles.{selection}
use Rattle.ports.specs.PortMasks.{port_mask}
use Rattle.ports.proofs.PortMasks.{same_mask, empty_mask}
use Rattle.origins.specs.declared.effects.Effect.TheVariants.{NotFollowed, NoPort, Selected, Shared, Ports}
use Rattle.origins.specs.Origins.{Register, shared_register, port_register, IsRegister, reaches, FileOfBytes}
use Rattle.origins.specs.Effects.{changes, ignores_bits, effect_of}
use Rattle.origins.proofs.Reaching.{reaches_none, reaches_ports, no_port_lem}
use Rattle.origins.proofs.EffectLaws.{effect_none, effect_ports, effect_shared}
use Rattle.origins.proofs.EffectLaws.{ports_none, ports_some, shared_selected, shared_other}
use Rattle.origins.proofs.EffectMeanings.{changed_where_reached}
use Rattle.ordering.proofs.KindLaws.{kind_not_followed, paged_kind_lem}
use Rattle.findings.specs.AtWrites.{ports_reached}

-- every per-port register has writable bits
pub unwritable_shared : (offset : ℕ) → mask_of offset ≡ 0 → per_port offset ≡ false
unwritable_shared offset m = go (per_port offset) refl
  where
    go : (b : Bool) → per_port offset ≡ b → b ≡ false
    go false p = refl
    go true p =
        let one = kind_not_followed offset m in
        let other = paged_kind_lem offset p in
        zero_not_one (cc)

-- the ports that are ticked
abbrev pub ticked : RegisterFile → ℕ
ticked file = port_mask (λ port. bit port (selection file))

-- the ports whose register changes
abbrev pub ports_changed : RegisterFile → ℕ → ℕ → ℕ
ports_changed file offset value = port_mask (λ port. changes file offset value (port_register port offset))

module _ (file : RegisterFile) (offset value : ℕ) where
  pub data EffectCase : Type 0 where
    unfollowed : mask_of offset ≡ 0 → effect_of file offset value ≡ NotFollowed → EffectCase
    unticked : (mask_of offset ≡ 0 → ⊥) → per_port offset ≡ true → ticked file ≡ 0
        → effect_of file offset value ≡ NoPort → EffectCase
    to_ports : (mask_of offset ≡ 0 → ⊥) → per_port offset ≡ true → (ticked file ≡ 0 → ⊥)
        → effect_of file offset value
        ≡ Ports (ticked file) (ports_changed file offset value) (ignores_bits offset value) → EffectCase
    selecting : (mask_of offset ≡ 0 → ⊥) → per_port offset ≡ false
        → effect_of file offset value
        ≡ Selected (port_mask (λ port. bit port value)) (changes file offset value (shared_register offset))
        (ignores_bits offset value) → EffectCase
    to_shared : (mask_of offset ≡ 0 → ⊥) → per_port offset ≡ false
        → effect_of file offset value
        ≡ Shared (changes file offset value (shared_register offset)) (ignores_bits offset value) → EffectCase

  pub effect_case : EffectCase
  effect_case = go _ _ _ _ refl refl refl refl
    where
      go : (m p t s : Bool) → eqb (mask_of offset) 0 ≡ m → per_port offset ≡ p → eqb (ticked file) 0 ≡ t
          → eqb offset FPD3_PORT_SEL ≡ s → EffectCase
      go true p t s em ep et es =
          let m = eqb-true (mask_of offset) 0 em in unfollowed m (effect_none file offset value m)
      go false true true s em ep et es =
          let m = eqb-false (mask_of offset) 0 em in
          let t = eqb-true (ticked file) 0 et in
          unticked m ep t (effect_ports file offset value m ep ∙ ports_none file offset value m ep refl t)
      go false true false s em ep et es =
          let m = eqb-false (mask_of offset) 0 em in
          let t = eqb-false (ticked file) 0 et in
          to_ports m ep t
          (effect_ports file offset value m ep ∙ ports_some file offset value m ep refl t refl refl refl)
      go false false t true em ep et es =
          let m = eqb-false (mask_of offset) 0 em in
          let s = eqb-true offset FPD3_PORT_SEL es in
          selecting m ep
          (effect_shared file offset value m ep ∙ shared_selected file offset value refl refl refl s refl)
      go false false t false em ep et es =
          let m = eqb-false (mask_of offset) 0 em in
          let s = eqb-false offset FPD3_PORT_SEL es in
          to_shared m ep (effect_shared file offset value m ep ∙ shared_other file offset value refl refl refl s)

  -- the ports that are reached, by the cases
  pub reached_none_lem : mask_of offset ≡ 0 → ports_reached file offset ≡ 0
  reached_none_lem m =
      (empty_mask (λ port. reaches file offset (port_register port offset))).every
      (λ port h. reaches_none file offset m (port_register port offset))

  pub reached_ticked : (mask_of offset ≡ 0 → ⊥) → per_port offset ≡ true → ports_reached file offset ≡ ticked file
  reached_ticked m p = same_mask _ _ (λ port. reaches_ports file offset m p port)

  pub reached_shared : (mask_of offset ≡ 0 → ⊥) → per_port offset ≡ false → ports_reached file offset ≡ 0
  reached_shared m p =
      (empty_mask (λ port. reaches file offset (port_register port offset))).every
      (λ port h. no_port_lem file offset m p port offset)

  -- a register that is not reached does not change
  pub unchanged : FileOfBytes file → (register : Register) → IsRegister register
      → reaches file offset register ≡ false → changes file offset value register ≡ false
  unchanged f register h e = go (changes file offset value register) refl
    where
      go : (b : Bool) → changes file offset value register ≡ b → b ≡ false
      go false c = refl
      go true c =
          let r = changed_where_reached file f offset value register h c in
          zero_not_one (cc)
