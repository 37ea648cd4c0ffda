-- The definitions of specs/Effects.antt by their cases.
-- Assumes nothing.
use Rattle.std.proofs.Common.{◌≡◌, ℕ, Bool, true, false, sym, eq-eqb, ne_eqb}
use Rattle.laws.specs.Bits.{bit}
use Rattle.registers.specs.declared.RegisterFile.{RegisterFile}
use Rattle.registers.specs.declared.PageAccess.TheVariants.{Selection}
use Rattle.registers.specs.RegisterMap.{mask_of, per_port, FPD3_PORT_SEL}
use Rattle.registers.specs.RegisterFiles.{selection, write_register}
use Rattle.ports.specs.PortMasks.{port_mask}
use Rattle.ports.proofs.PortMasks.{same_mask}
use Rattle.origins.specs.declared.effects.Effect.TheVariants.{NotFollowed, NoPort, Selected, Shared, Ports}
use Rattle.origins.specs.Origins.{shared_register, port_register, reaches}
use Rattle.origins.specs.Effects.{differs, ignores_bits, ports_effect, shared_effect, effect_of}
use Rattle.origins.proofs.Reaching.{reaches_ports}

module _ (file : RegisterFile) (offset value : ℕ) where
  pub effect_none : mask_of offset ≡ 0 → effect_of file offset value ≡ NotFollowed
  unfolding effect_of
  effect_none e = rw e

  module _ (writable : mask_of offset ≡ 0 → ⊥) where
    pub effect_ports : per_port offset ≡ true → effect_of file offset value ≡ ports_effect file offset value
    unfolding effect_of
    effect_ports p = rw (ne_eqb (mask_of offset) 0 writable, p)

    pub effect_shared : per_port offset ≡ false → effect_of file offset value ≡ shared_effect file offset value
    unfolding effect_of
    effect_shared p = rw (ne_eqb (mask_of offset) 0 writable, p)

    -- a per-port register: the ports that it reaches are those that are ticked
    module _ (p : per_port offset ≡ true) where
      ticked : port_mask (λ port. bit port (selection file))
          ≡ port_mask (λ port. reaches file offset (port_register port offset))
      ticked = same_mask _ _ (λ port. sym (reaches_ports file offset writable p port))

      pub ports_none : {mask : ℕ} → mask ≡ port_mask (λ port. bit port (selection file)) → mask ≡ 0
          → ports_effect file offset value ≡ NoPort
      unfolding ports_effect
      ports_none m z = rw (← ticked, ← m, z)

      pub ports_some : {mask changed : ℕ} {ignored : Bool} {after : RegisterFile}
          → mask ≡ port_mask (λ port. bit port (selection file)) → (mask ≡ 0 → ⊥)
          → after ≡ write_register Selection file offset value
          → changed ≡ port_mask (λ port. differs file after (port_register port offset))
          → ignored ≡ ignores_bits offset value → ports_effect file offset value ≡ Ports mask changed ignored
      unfolding ports_effect
      ports_some {mask} m z w d i = rw (← ticked, ← m, ne_eqb mask 0 z, ← w, ← d, ← i)

  module _ {changed ignored : Bool} {after : RegisterFile} (w : after ≡ write_register Selection file offset value)
      (d : changed ≡ differs file after (shared_register offset)) (i : ignored ≡ ignores_bits offset value) where
    pub shared_selected : {mask : ℕ} → offset ≡ FPD3_PORT_SEL → mask ≡ port_mask (λ port. bit port value)
        → shared_effect file offset value ≡ Selected mask changed ignored
    unfolding shared_effect
    shared_selected e m = rw (eq-eqb offset FPD3_PORT_SEL e, ← m, ← w, ← d, ← i)

    pub shared_other : (offset ≡ FPD3_PORT_SEL → ⊥) → shared_effect file offset value ≡ Shared changed ignored
    unfolding shared_effect
    shared_other e = rw (ne_eqb offset FPD3_PORT_SEL e, ← w, ← d, ← i)
