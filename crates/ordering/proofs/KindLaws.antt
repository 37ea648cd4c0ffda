-- The kind of a write by its cases, and what it says of the offset.
-- Assumes nothing.
use Rattle.std.proofs.Common.{◌≡◌, ℕ, ◌<◌, Bool, true, false, cond, not, eqb, refl, eq-eqb, ne_eqb, eqb-true}
use borrow.Author.Tests.{eqb-false}
use Rattle.laws.proofs.Absurd.{zero_not_one}
use Rattle.laws.proofs.Tables.{all_below, true_below}
use Rattle.registers.specs.RegisterMap.{rows, row_in, mask_of, per_port, FPD3_PORT_SEL}
use Rattle.registers.proofs.RegisterMap.{per_port_small}
use Rattle.ordering.specs.declared.kinds.WriteKind.{WriteKind}
use Rattle.ordering.specs.declared.kinds.WriteKind.TheVariants.{NotFollowed, Selection}
use Rattle.ordering.specs.declared.kinds.WriteKind.TheVariants.{PortRegister, SharedRegister}
use Rattle.ordering.specs.Kinds.{kind_of, is_port_register}

module _ (offset : ℕ) where
  pub kind_not_followed : mask_of offset ≡ 0 → kind_of offset ≡ NotFollowed
  unfolding kind_of
  kind_not_followed m = rw (eq-eqb (mask_of offset) 0 m)

  pub kind_selection : (mask_of offset ≡ 0 → ⊥) → offset ≡ FPD3_PORT_SEL → kind_of offset ≡ Selection
  unfolding kind_of
  kind_selection m s = rw (ne_eqb (mask_of offset) 0 m, eq-eqb offset FPD3_PORT_SEL s)

  pub kind_port_register : (mask_of offset ≡ 0 → ⊥) → (offset ≡ FPD3_PORT_SEL → ⊥) → per_port offset ≡ true
      → kind_of offset ≡ PortRegister
  unfolding kind_of
  kind_port_register m s p = rw (ne_eqb (mask_of offset) 0 m, ne_eqb offset FPD3_PORT_SEL s, p)

  pub kind_shared : (mask_of offset ≡ 0 → ⊥) → (offset ≡ FPD3_PORT_SEL → ⊥) → per_port offset ≡ false
      → kind_of offset ≡ SharedRegister
  unfolding kind_of
  kind_shared m s p = rw (ne_eqb (mask_of offset) 0 m, ne_eqb offset FPD3_PORT_SEL s, p)

  -- what each kind says of the offset
  abbrev Said : WriteKind → Type 0
  Said NotFollowed = mask_of offset ≡ 0
  Said Selection = offset ≡ FPD3_PORT_SEL
  Said PortRegister = per_port offset ≡ true
  Said SharedRegister = (per_port offset ≡ false) × (offset ≡ FPD3_PORT_SEL → ⊥)

  said : Said (kind_of offset)
  unfolding kind_of
  said = go (eqb (mask_of offset) 0) (eqb offset FPD3_PORT_SEL) (per_port offset) refl refl refl
    where
      go : (m s p : Bool) → eqb (mask_of offset) 0 ≡ m → eqb offset FPD3_PORT_SEL ≡ s → per_port offset ≡ p
          → Said (cond (not m) (cond s Selection (cond p PortRegister SharedRegister)) NotFollowed)
      go true s p em es ep = eqb-true (mask_of offset) 0 em
      go false true p em es ep = eqb-true offset FPD3_PORT_SEL es
      go false false true em es ep = ep
      go false false false em es ep = (ep, eqb-false offset FPD3_PORT_SEL es)

  pub not_followed_mask : kind_of offset ≡ NotFollowed → mask_of offset ≡ 0
  not_followed_mask e = rw e at said

  pub selection_offset : kind_of offset ≡ Selection → offset ≡ FPD3_PORT_SEL
  selection_offset e = rw e at said

  pub port_register_paged : kind_of offset ≡ PortRegister → per_port offset ≡ true
  port_register_paged e = rw e at said

  pub shared_unpaged : kind_of offset ≡ SharedRegister → (per_port offset ≡ false) × (offset ≡ FPD3_PORT_SEL → ⊥)
  shared_unpaged e = rw e at said

-- a write to 0x4C is a selection, and a write to a per-port offset has writable bits
pub selection_kind : kind_of FPD3_PORT_SEL ≡ Selection
unfolding kind_of mask_of row_in rows
selection_kind = refl

paged_kind : ℕ → Bool
paged_kind offset = cond (per_port offset) (is_port_register (kind_of offset)) true

is_port_register_lem : (k : WriteKind) → is_port_register k ≡ true → k ≡ PortRegister
is_port_register_lem PortRegister e = refl
is_port_register_lem NotFollowed e = zero_not_one (cc)
is_port_register_lem Selection e = zero_not_one (cc)
is_port_register_lem SharedRegister e = zero_not_one (cc)

every_paged : (offset : ℕ) → offset < 256 → paged_kind offset ≡ true
unfolding all_below paged_kind kind_of mask_of per_port row_in rows
every_paged offset h = true_below paged_kind 256 tt offset h

pub paged_kind_lem : (offset : ℕ) → per_port offset ≡ true → kind_of offset ≡ PortRegister
unfolding paged_kind
paged_kind_lem offset p = is_port_register_lem (kind_of offset) (rw p at (every_paged offset (per_port_small offset p)))
