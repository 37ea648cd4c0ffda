-- `registers::write_ports` meets its contract. The loop's invariant: the ports below `port` are done.
use mathlib.Core.Path.{refl, sym, ◌∙◌}
use native.Mathlib.Numerals.{add-one}
use Rattle.registers.specs.RegisterFiles.{write_page, write_ports}
use Rattle.registers.proofs.write_ports.Goals as goal
use Rattle.registers.proofs.write_ports.Goals.{then-writes_port, else-writes_port}

pub loop-port-init : goal.loop-port-init
unfolding write_ports
loop-port-init c = refl

pub loop-port-preserved : goal.loop-port-preserved
unfolding write_ports write_page
loop-port-preserved c =
    let l = c.loop-port in
    let written = sym c.writes_port.ensures in
    let mask = c.write_mask-mask.ensures in
    elim c.if-writes_port.branch [
      | then-writes_port w ↦
          w.next-is ∙ rw (add-one l.port, written ∙ w.if-writes_port.true, ← l.invariant, w.masked_write.ensures, mask)
      | else-writes_port w ↦ w.next-is ∙ l.invariant ∙ rw (add-one l.port, written ∙ w.if-writes_port.false)
    ]
