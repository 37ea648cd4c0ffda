-- What a register write is to a script of setup blocks.
-- Assumes nothing.
use Rattle.std.specs.Prelude.{ℕ, Bool, true, false, cond, List, [], ◌∷◌, ◌==◌}
use Rattle.registers.specs.RegisterMap.{per_port, FPD3_PORT_SEL}
use Rattle.origins.specs.declared.NumberedWrite.{NumberedWrite}
use Rattle.origins.specs.Origins.{is_writable}
use Rattle.ordering.specs.declared.kinds.WriteKind.{WriteKind}
use Rattle.ordering.specs.declared.kinds.WriteKind.TheVariants.{NotFollowed, Selection}
use Rattle.ordering.specs.declared.kinds.WriteKind.TheVariants.{PortRegister, SharedRegister}

-- a write to 0x4C; to an offset marked P; to "a shared register other than 0x4C"; or "no bit of the register is
-- writable (the model does not follow it)"
unfoldable pub kind_of : ℕ → WriteKind
kind_of offset =
    cond (is_writable offset)
    (cond (offset == FPD3_PORT_SEL) Selection (cond (per_port offset) PortRegister SharedRegister))
    NotFollowed

abbrev pub kind : NumberedWrite → WriteKind
kind w = kind_of w.offset

abbrev pub is_followed : WriteKind → Bool
is_followed NotFollowed = false
is_followed Selection = true
is_followed PortRegister = true
is_followed SharedRegister = true

abbrev pub is_selection : WriteKind → Bool
is_selection NotFollowed = false
is_selection Selection = true
is_selection PortRegister = false
is_selection SharedRegister = false

abbrev pub is_port_register : WriteKind → Bool
is_port_register NotFollowed = false
is_port_register Selection = false
is_port_register PortRegister = true
is_port_register SharedRegister = false

abbrev pub is_shared : WriteKind → Bool
is_shared NotFollowed = false
is_shared Selection = false
is_shared PortRegister = false
is_shared SharedRegister = true

-- "a selection or a per-port write"
abbrev pub is_of_block : WriteKind → Bool
is_of_block NotFollowed = false
is_of_block Selection = true
is_of_block PortRegister = true
is_of_block SharedRegister = false

-- "the writes that the model follows"
unfoldable pub followed : List NumberedWrite → List NumberedWrite
followed [] = []
followed (w ∷ ws) = cond (is_followed (kind w)) (w ∷ followed ws) (followed ws)

-- there is a write of such a kind
unfoldable pub any_write : (WriteKind → Bool) → List NumberedWrite → Bool
any_write test [] = false
any_write test (w ∷ ws) = cond (test (kind w)) true (any_write test ws)
