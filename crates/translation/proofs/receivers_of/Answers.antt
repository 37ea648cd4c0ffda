-- `translation::receivers_of` meets its contract: one port's answer is collected after the other.
use mathlib.Core.Path.{refl, sym, ◌∙◌}
use Prim.Native.Nat.{◌≤◌}
use native.Mathlib.Omega.{arith}
use lib.ListN.{length, take, length-take}
use Rattle.translation.specs.Translation.{on_ports, receivers}
use Rattle.translation.proofs.Collecting.{collected_next, collected_none, one_port_more}
use Rattle.translation.proofs.receivers_of.Goals as goal
use Rattle.translation.proofs.receivers_of.Goals.{in-Some, in_default}

pub loop-port-init : goal.loop-port-init
unfolding receivers
loop-port-init c = refl

pub loop-port-preserved : goal.loop-port-preserved
unfolding receivers
loop-port-preserved c =
    let l = c.loop-port in
    let answers = on_ports c.args.pages.now c.args.address in
    let few : length (take l.port answers) ≤ 3 = omega (arith, length-take l.port answers) in
    let more = one_port_more c.args.pages.now c.args.address l.port (omega arith) in
    elim c.match-on_port.branch [
      | in-Some w ↦
          rw (w.so_far-is, more, sym c.on_port.ensures ∙ w.in-Some.is)
          (collected_next (take l.port answers) _ few l.invariant w.with_device.ensures)
      | in_default w ↦
          rw (w.so_far-is, more, sym c.on_port.ensures ∙ w.in_default.is)
          (collected_next (take l.port answers) _ few l.invariant (collected_none l.so_far))
    ]
