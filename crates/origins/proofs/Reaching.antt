-- Which registers a write reaches, by the cases of its offset.
-- Assumes nothing.
use Rattle.std.proofs.Common.{◌≡◌, ℕ, ◌<◌, true, false, eqb, refl, eq-eqb, ne_eqb, eqb-true}
use Rattle.laws.specs.Bits.{bit}
use Rattle.laws.proofs.Bools.{both, never}
use Rattle.registers.specs.declared.RegisterFile.{RegisterFile}
use Rattle.registers.specs.RegisterMap.{mask_of, per_port}
use Rattle.registers.specs.RegisterFiles.{selection}
use Rattle.origins.specs.Origins.{Register, shared_register, port_register, offset_of, IsRegister, reaches}

pub offset_byte : (register : Register) → IsRegister register → offset_of register < 256
offset_byte (shared_register offset) h = h
offset_byte (port_register port offset) h = h.1

module _ (file : RegisterFile) (at : ℕ) where
  own : eqb at at ≡ true
  own = eq-eqb at at refl

  -- no bit is writable: none
  pub reaches_none : mask_of at ≡ 0 → (register : Register) → reaches file at register ≡ false
  unfolding reaches
  reaches_none e (shared_register offset) = rw (e, never (eqb offset at))
  reaches_none e (port_register port offset) = rw (e, never (eqb offset at))

  -- a register at another offset
  pub reaches_other : (register : Register) → eqb (offset_of register) at ≡ false → reaches file at register ≡ false
  unfolding reaches
  reaches_other (shared_register offset) e = rw e
  reaches_other (port_register port offset) e = rw e

  -- so one that is reached has the write's offset
  pub reached_offset : (register : Register) → reaches file at register ≡ true → offset_of register ≡ at
  unfolding reaches
  reached_offset (shared_register offset) e = eqb-true offset at (both (eqb offset at) _ (both _ _ e).0).0
  reached_offset (port_register port offset) e = eqb-true offset at (both (eqb offset at) _ (both _ _ e).0).0

  -- a register of a port that is not ticked
  pub reaches_unticked : (port offset : ℕ) → bit port (selection file) ≡ false
      → reaches file at (port_register port offset) ≡ false
  unfolding reaches
  reaches_unticked port offset e = rw (e, never (per_port at), never _)

  module _ (writable : mask_of at ≡ 0 → ⊥) where
    -- a shared offset: the shared register, and no port's
    pub reaches_shared : per_port at ≡ false → reaches file at (shared_register at) ≡ true
    unfolding reaches
    reaches_shared p = rw (own, ne_eqb (mask_of at) 0 writable, p)

    pub no_shared : per_port at ≡ true → (offset : ℕ) → reaches file at (shared_register offset) ≡ false
    unfolding reaches
    no_shared p offset = rw (p, never _)

    pub reaches_ports : per_port at ≡ true → (port : ℕ)
        → reaches file at (port_register port at) ≡ bit port (selection file)
    unfolding reaches
    reaches_ports p port = rw (own, ne_eqb (mask_of at) 0 writable, p)

    pub no_port_lem : per_port at ≡ false → (port offset : ℕ) → reaches file at (port_register port offset) ≡ false
    unfolding reaches
    no_port_lem p port offset = rw (p, never _)
