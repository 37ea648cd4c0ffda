-- `registers::read` meets its contract, by the two cases of the definition.
use mathlib.Core.Path.{sym, ◌∙◌}
use Rattle.registers.specs.RegisterFiles.{read_register}
use Rattle.registers.proofs.read.Goals as goal

pub returns-then-is_per_port : goal.returns-then-is_per_port
unfolding read_register
returns-then-is_per_port c =
    let paged = sym c.is_per_port.ensures ∙ c.if-is_per_port.true in
    c.page_register.ensures ∙ rw (c.port_read.ensures, paged)

pub returns : goal.returns
unfolding read_register
returns c = rw (sym c.is_per_port.ensures ∙ c.if-is_per_port.false)
