-- `clashes::addresses::any_behind` meets its contract.
use Rattle.std.proofs.Common.{sym, ◌∙◌, arith}
use Rattle.clashes.proofs.AddressLaws.{behind_here, not_here, nobody_here, past_four}
use Rattle.clashes.proofs.addresses.any_behind.Goals as goal
use Rattle.clashes.proofs.addresses.any_behind.Goals.{in-Some+else-device-port, in_default}

pub returns-then-device-port : goal.returns-then-device-port
returns-then-device-port c =
    let l = c.loop-k in
    sym (behind_here _ _ l.k _ (sym c.in-Some.ensures) c.if-device-port.true) ∙ l.invariant

pub loop-k-preserved : goal.loop-k-preserved
loop-k-preserved c =
    let l = c.loop-k in
    elim c.match-get.branch [
      | in-Some+else-device-port w ↦ not_here _ _ l.k _ (sym w.in-Some.ensures) w.if-device-port.false ∙ l.invariant
      | in_default w ↦ nobody_here _ _ l.k (sym c.get.ensures ∙ w.in_default.is) ∙ l.invariant
    ]

pub returns : goal.returns
returns c =
    let l = c.loop-k in
    sym (past_four c.args.port c.args.devices l.k (omega arith)) ∙ l.invariant
