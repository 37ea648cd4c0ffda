-- `endstate::addresses::lines_of_devices` meets its contract.
use Rattle.std.proofs.Common.{sym, ◌∙◌, ◌+◌, ◌-◌, arith}
use Rattle.translation.specs.Translation.{devices_of}
use Rattle.clashes.proofs.AddressLaws.{device_at, none_at}
use Rattle.endstate.proofs.AddressLaws.{lines_start, one_device}
use Rattle.endstate.proofs.addresses.lines_of_devices.Goals as goal
use Rattle.endstate.proofs.addresses.lines_of_devices.Goals.{in-Some, in_default}

pub loop-k-init : goal.loop-k-init
loop-k-init c = lines_start c.args.state c.args.devices c.no_lines-lines.ensures

pub loop-k-preserved : goal.loop-k-preserved
loop-k-preserved c =
    let l = c.loop-k in
    let devices = devices_of c.args.devices in
    elim c.match-get.branch [
      | in-Some w ↦
          rw (device_at devices (3 - l.k) (4 - (l.k + 1)) (4 - l.k) (omega arith) (omega arith) _ (sym w.in-Some.ensures))
          (w.lines-is ∙ one_device c.args.state _ _ l.invariant w.with_device-lines.ensures)
      | in_default w ↦
          rw (none_at devices (3 - l.k) (4 - (l.k + 1)) (4 - l.k) (omega arith) (omega arith)
          (sym c.get.ensures ∙ w.in_default.is))
          (w.lines-is ∙ l.invariant)
    ]
