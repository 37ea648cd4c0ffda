-- `endstate::wrong::count_below` meets its contract.
use Rattle.std.proofs.Common.{◌≡◌, refl, sym, ◌∙◌, ap, arith}
use Rattle.endstate.specs.Wrong.{count_below}
use Rattle.endstate.proofs.WrongLaws.{count_none, count_more}
use Rattle.endstate.proofs.wrong.count_below.Goals as goal
use Rattle.endstate.proofs.wrong.count_below.Goals.{then-passes, else-passes}

pub loop-k-init : goal.loop-k-init
loop-k-init g c = record { counted = λ test h. count_none test; few = omega arith }

pub loop-k-preserved : goal.loop-k-preserved
loop-k-preserved g c =
    let l = c.loop-k in
    elim c.if-passes.branch [
      | then-passes w ↦
          record {
            counted = λ test h.
                w.count-is
                ∙ count_more test l.k (l.invariant.counted test h)
                (sym w.if-passes.true ∙ h l.k c.passes.result (omega arith) c.passes.ensures) refl;
            few = omega arith;
          }
      | else-passes w ↦
          record {
            counted = λ test h.
                w.count-is
                ∙ count_more test l.k (l.invariant.counted test h)
                (sym w.if-passes.false ∙ h l.k c.passes.result (omega arith) c.passes.ensures) refl;
            few = omega arith;
          }
    ]

pub returns-clause-counted : goal.returns-clause-counted
returns-clause-counted g c =
    λ test h.
    let l = c.loop-k in
    let all : l.k ≡ c.args.end = omega arith in
    l.invariant.counted test h ∙ ap (count_below test) all
