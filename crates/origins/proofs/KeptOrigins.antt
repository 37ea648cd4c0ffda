-- The numbers kept for the registers are those of their origins.
-- Assumes nothing.
use Rattle.std.proofs.Common.{◌≡◌, ℕ, zero, suc, ◌<◌, ◌≤◌, Bool, true, false, cond, ◌&&◌, eqb, ltb, List, [], ◌∷◌, ◌++◌, map, length, get_or, sym, refl, ap, ◌∙◌, arith, lit<, le-ltb, lt-ltb, length-set, get_or-set_other, get_or-set_same, eqb-true}
use mathlib.Core.Option.{Option, none, some}
use borrow.Author.Tests.{eqb-false}
use lib.ListN.{length-replicate, get_or-replicate}
use Rattle.laws.specs.Bits.{bit}
use Rattle.registers.specs.declared.RegisterFile.{RegisterFile}
use Rattle.registers.specs.declared.PageAccess.TheVariants.{Selection}
use Rattle.registers.specs.RegisterMap.{mask_of, per_port}
use Rattle.registers.specs.RegisterFiles.{selection}
use Rattle.registers.specs.Bursts.{burst_writes, write_each}
use Rattle.registers.proofs.Bursts.{burst_writes_lem}
use Rattle.origins.specs.declared.OffsetOrigins.{OffsetOrigins}
use Rattle.origins.specs.declared.RegistersWithOrigins.{RegistersWithOrigins}
use Rattle.origins.specs.declared.NumberedWrite.{NumberedWrite}
use Rattle.origins.specs.NumberedWrites.{unnumbered_writes, numbered_burst}
use Rattle.origins.specs.Origins.{Register, shared_register, port_register, offset_of, IsRegister}
use Rattle.origins.specs.Origins.{reaches, after_numbered, later_or, origin_of}
use Rattle.origins.specs.KeptOrigins.{no_origins, past_last, port_origin, number_in, kept_number, number_after, port_after, origins_after}
use Rattle.origins.specs.KeptOrigins.{write_numbered, write_numbered_each, start_with, number_of}
use Rattle.origins.specs.KeptOrigins.{EveryOriginKept, BurstRegisters}
use Rattle.origins.proofs.NumberedWrites.{unnumbered_as}
use Rattle.origins.proofs.Reaching.{offset_byte, reaches_none, reaches_other}
use Rattle.origins.proofs.Reaching.{reaches_shared, no_shared, reaches_ports, no_port_lem}

-- four numbers, by each of them
pub four_ports : (f : ℕ → ℕ) (numbers : List ℕ) → length numbers ≡ 4
    → ((port : ℕ) → port < 4 → get_or numbers port 0 ≡ f port) → map f (0 ∷ 1 ∷ 2 ∷ 3 ∷ []) ≡ numbers
four_ports f (a ∷ b ∷ c ∷ d ∷ []) count each =
    rw (← each 0 (lit< tt), ← each 1 (lit< tt), ← each 2 (lit< tt), ← each 3 (lit< tt))
four_ports f [] count each = absurd (omega arith)
four_ports f (a ∷ []) count each = absurd (omega arith)
four_ports f (a ∷ b ∷ []) count each = absurd (omega arith)
four_ports f (a ∷ b ∷ c ∷ []) count each = absurd (omega arith)
four_ports f (a ∷ b ∷ c ∷ d ∷ e ∷ more) count each = absurd (omega arith)

-- the number of a port that there is
pub there_is : (origins : OffsetOrigins) (port : ℕ) → port < 4 → port_origin origins port ≡ get_or origins.ports port 0
there_is origins port h = rw (le-ltb 3 port (omega arith))

-- the numbers at the offset of a write, by its cases
module _ (file : RegisterFile) (number at : ℕ) (before : OffsetOrigins) (count : length before.ports ≡ 4) where
  unmoved : ((port : ℕ) → reaches file at (port_register port at) ≡ false)
      → map (port_after file number at before) (0 ∷ 1 ∷ 2 ∷ 3 ∷ []) ≡ before.ports
  unmoved unreached =
      four_ports (port_after file number at before) before.ports count
      (λ port h. rw (unreached port, there_is before port h))

  pub after_none : mask_of at ≡ 0 → origins_after file number at before ≡ before
  unfolding origins_after
  after_none e =
      rw (
        reaches_none file at e (shared_register at),
        unmoved (λ port. reaches_none file at e (port_register port at)),
      )

  module _ (writable : mask_of at ≡ 0 → ⊥) where
    pub after_shared : per_port at ≡ false
        → origins_after file number at before ≡ record { shared = number; ports = before.ports }
    unfolding origins_after
    after_shared p =
        rw (
          reaches_shared file at writable p,
          unmoved (λ port. no_port_lem file at writable p port at),
        )

    -- of a per-port register that of each port that is ticked
    pub after_ports_lem : per_port at ≡ true → (after : OffsetOrigins) → after.shared ≡ before.shared
        → length after.ports ≡ 4 → (end : ℕ) → 4 ≤ end
        → ((port : ℕ) → get_or after.ports port 0
        ≡ cond (ltb port end && bit port (selection file)) number (get_or before.ports port 0))
        → after ≡ origins_after file number at before
    unfolding origins_after
    after_ports_lem p after shared four end past each =
        rw (
          no_shared file at writable p at,
          four_ports (port_after file number at before) after.ports four
              (λ port (h : port < 4). each port
              ∙ rw (lt-ltb port end (omega arith), reaches_ports file at writable p port, there_is before port h)),
          ← shared,
        )

-- one write: each register at its offset
at_offset : (file : RegisterFile) (number at : ℕ) (before : OffsetOrigins) (register : Register) → IsRegister register
    → offset_of register ≡ at
    → number_in (origins_after file number at before) register
    ≡ number_after file number at register (number_in before register)
unfolding origins_after
at_offset file number at before (shared_register offset) h e = rw e
at_offset file number at before (port_register zero offset) h e = rw e
at_offset file number at before (port_register (suc zero) offset) h e = rw e
at_offset file number at before (port_register (suc (suc zero)) offset) h e = rw e
at_offset file number at before (port_register (suc (suc (suc zero))) offset) h e = rw e
at_offset file number at before (port_register (suc (suc (suc (suc port)))) offset) h e = absurd (omega arith)

-- and every register
one_write : (register : Register) → IsRegister register → (state : RegistersWithOrigins) → length state.origins ≡ 256
    → (write : NumberedWrite)
    → kept_number (write_numbered state write) register
    ≡ number_after state.registers write.number write.offset register (kept_number state register)
unfolding kept_number write_numbered
one_write register h state count write = go (eqb (offset_of register) at) refl
  where
    at : ℕ
    at = write.offset

    after : OffsetOrigins
    after = origins_after state.registers write.number at (get_or state.origins at past_last)

    go : (b : Bool) → eqb (offset_of register) at ≡ b
        → kept_number (write_numbered state write) register
        ≡ number_after state.registers write.number at register (kept_number state register)
    go true e =
        let q : offset_of register ≡ at = eqb-true (offset_of register) at e in
        let small : at < length state.origins = omega (arith, count, offset_byte register h, q) in
        rw (q, get_or-set_same state.origins at after past_last small)
        (at_offset state.registers write.number at (get_or state.origins at past_last) register h q)
    go false e =
        rw (
          get_or-set_other state.origins at (offset_of register) after past_last (eqb-false (offset_of register) at e),
          reaches_other state.registers at register e,
        )

-- the number of the later write, where there is one, or else the number before
abbrev number_or : ℕ → Option NumberedWrite → ℕ
number_or before none = before
number_or before (some write) = write.number

one_more : (before : ℕ) (b : Bool) (write : NumberedWrite) (later : Option NumberedWrite)
    → number_or (cond b write.number before) later ≡ number_or before (later_or later (cond b (some write) none))
one_more before true write none = refl
one_more before false write none = refl
one_more before b write (some later) = refl

count_kept : (state : RegistersWithOrigins) (write : NumberedWrite)
    → length (write_numbered state write).origins ≡ length state.origins
unfolding write_numbered
count_kept state write = length-set state.origins _ _

all-kept : (register : Register) → IsRegister register → (state : RegistersWithOrigins) → length state.origins ≡ 256
    → (writes : List NumberedWrite)
    → kept_number (write_numbered_each state writes) register
    ≡ number_or (kept_number state register) (origin_of state.registers writes register)
unfolding write_numbered_each origin_of write_numbered
all-kept register h state count [] = refl
all-kept register h state count (write ∷ writes) =
    let later = origin_of (after_numbered state.registers write) writes register in
    all-kept register h (write_numbered state write) (count_kept state write ∙ count) writes
    ∙ ap (λ (n : ℕ). number_or n later) (one_write register h state count write)
    ∙ one_more (kept_number state register) (reaches state.registers write.offset register) write later

-- the registers are as without the numbers
registers_kept : (state : RegistersWithOrigins) (writes : List NumberedWrite)
    → (write_numbered_each state writes).registers ≡ write_each Selection state.registers (unnumbered_writes writes)
unfolding write_numbered_each write_numbered write_each unnumbered_writes
registers_kept state [] = refl
registers_kept state (write ∷ writes) = registers_kept (write_numbered state write) writes

-- those of a burst are a burst's
pub burst_registers : BurstRegisters
burst_registers state number offset values =
    registers_kept state (numbered_burst number offset values)
    ∙ ap (write_each Selection state.registers) (unnumbered_as number (burst_writes offset values))
    ∙ sym (burst_writes_lem Selection state.registers offset values)

-- writes after other writes
pub each_append : (state : RegistersWithOrigins) (a b : List NumberedWrite)
    → write_numbered_each state (a ++ b) ≡ write_numbered_each (write_numbered_each state a) b
unfolding write_numbered_each
each_append state [] b = refl
each_append state (write ∷ a) b = each_append (write_numbered state write) a b

-- at the start
none_in : (register : Register) → IsRegister register → number_in no_origins register ≡ 0
none_in (shared_register offset) h = refl
none_in (port_register zero offset) h = refl
none_in (port_register (suc zero) offset) h = refl
none_in (port_register (suc (suc zero)) offset) h = refl
none_in (port_register (suc (suc (suc zero))) offset) h = refl
none_in (port_register (suc (suc (suc (suc port)))) offset) h = absurd (omega arith)

none_kept : (start : RegisterFile) (register : Register) → IsRegister register
    → kept_number (start_with start) register ≡ 0
unfolding kept_number start_with
none_kept start register h =
    rw (get_or-replicate {A = OffsetOrigins} 256 (offset_of register) no_origins past_last (offset_byte register h))
    (none_in register h)

or_none : (origin : Option NumberedWrite) → number_or 0 origin ≡ number_of origin
or_none none = refl
or_none (some write) = refl

pub every_origin_kept : EveryOriginKept
unfolding start_with
every_origin_kept start writes =
    record {
      registers = registers_kept (start_with start) writes;
      numbers = λ register h.
          all-kept register h (start_with start) (length-replicate {A = OffsetOrigins} 256 no_origins) writes
          ∙ ap (λ (n : ℕ). number_or n (origin_of start writes register)) (none_kept start register h)
          ∙ or_none (origin_of start writes register);
    }
