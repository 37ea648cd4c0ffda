-- `printing::question::put_devices` meets its contract: one device is put after the other.
use mathlib.Core.Path.{sym, ◌∙◌}
use Rattle.buffers.proofs.PutLaws.{put_nothing, put_then_lem}
use Rattle.translation.specs.Translation.{devices_of}
use Rattle.printing.specs.PrintedLines.{devices_text}
use Rattle.printing.proofs.Devices.{text_more, none_more, all_devices}
use native.Mathlib.Omega.{arith}
use Rattle.printing.proofs.question.put_devices.Goals as goal
use Rattle.printing.proofs.question.put_devices.Goals.{in-Some, in_default}

pub loop-k-init : goal.loop-k-init
unfolding devices_text
loop-k-init c = put_nothing _ _

pub loop-k-preserved : goal.loop-k-preserved
loop-k-preserved c =
    let devices = devices_of c.args.devices in
    let k = c.loop-k.k in
    elim c.match-get.branch [
      | in-Some w ↦
          rw (w.out-is, w.next-is, text_more devices k _ (sym c.get.ensures ∙ w.in-Some.is))
          (put_then_lem c.loop-k.invariant w.put_device-next.ensures)
      | in_default w ↦
          rw (w.out-is, w.next-is, none_more devices k (sym c.get.ensures ∙ w.in_default.is)) c.loop-k.invariant
    ]

pub returns : goal.returns
returns c = rw (all_devices c.args.devices c.loop-k.k (omega arith)) at c.loop-k.invariant
