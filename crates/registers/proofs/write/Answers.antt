-- `registers::write` meets its contract, by the two cases of the definition.
use mathlib.Core.Path.{sym, ◌∙◌}
use Rattle.registers.proofs.RegisterFiles.{write_paged, write_unpaged}
use Rattle.registers.proofs.write.Goals as goal

pub returns-then-is_per_port : goal.returns-then-is_per_port
returns-then-is_per_port c =
    let paged = sym c.is_per_port.ensures ∙ c.if-is_per_port.true in
    c.write_ports.ensures ∙ sym (write_paged _ _ _ _ paged)

pub returns : goal.returns
returns c =
    let unpaged = sym c.is_per_port.ensures ∙ c.if-is_per_port.false in
    c.write_shared.ensures ∙ sym (write_unpaged _ _ _ _ unpaged)
