-- `scriptlines::take_lines` meets its contract. The loop's invariant: it is on its way from the start of the window.
use Rattle.std.proofs.Common.{◌≡◌, ◌+◌, ◌≤◌, Bool, true, length, drop, sym, refl, ap, ◌∙◌, arith, length-drop, drop-drop}
use Rattle.scriptlines.specs.TakenLines.{done_of, LinesState, lines_state_at, may_take_line, take_line}
use Rattle.scriptlines.specs.PrivateContracts.{TakesLine}
use Rattle.scriptlines.proofs.LineLaws.{to_take, has_room_lem, one_inside, one_less, way_start, way_on, way_end}
use Rattle.scriptlines.proofs.take_lines.Goals as goal
use Rattle.scriptlines.proofs.take_lines.Goals.{After-may_take_line, After-take_line-taken}

-- the window and the loop's variables as a state, and whether there is a line to take
abbrev here : After-may_take_line → LinesState
here c = let l = c.loop-left in lines_state_at (done_of l.run) (drop l.used c.args.window.now) l.out l.next

tested : (c : After-may_take_line) {outcome : Bool} → c.may_take_line.result ≡ outcome
    → may_take_line c.args.last (here c) ≡ outcome
tested c e = rw c.bytes_from.ensures at (sym c.may_take_line.ensures ∙ e)

-- the state before a line of the loop, and after it
abbrev before : After-take_line-taken → LinesState
before c = let l = c.loop-left in lines_state_at (done_of l.run) (drop l.used c.args.window.now) l.out l.next

may : (c : After-take_line-taken) → may_take_line c.args.last (before c) ≡ true
may c = rw c.bytes_from.ensures at (sym c.may_take_line.ensures ∙ c.loop-left-test.true)

taken : (c : After-take_line-taken) → TakesLine (before c) c.take_line-taken.result c.take_line-taken.new.out
taken c = rw c.bytes_from-left.ensures at c.take_line-taken.ensures

after : (c : After-take_line-taken)
    → let r = c.take_line-taken.result in
    lines_state_at (done_of r.run) (drop (c.loop-left.used + r.used) c.args.window.now) c.take_line-taken.new.out r.next
    ≡ take_line (before c)
after c = rw (sym (drop-drop c.take_line-taken.result.used c.loop-left.used c.args.window.now)) (taken c).state

-- the bytes that are used are inside the window
inside : (c : After-take_line-taken) → c.loop-left.used + c.take_line-taken.result.used ≤ length c.args.window.now
inside c =
    let l = c.loop-left in
    omega (arith, l.invariant.0, (taken c).used, length-drop l.used c.args.window.now)

pub loop-left-init : goal.loop-left-init
loop-left-init c = (omega arith, refl, λ h. h, way_start _ _)

pub take_line-taken-requires : goal.take_line-taken-requires
take_line-taken-requires c =
    let at_test = (goal.at.take_line-taken-requires c).After-may_take_line in
    has_room_lem _ (here at_test) (tested at_test c.loop-left-test.true)

pub loop-left-smaller : goal.loop-left-smaller
loop-left-smaller c =
    let one = (goal.at.loop-left-smaller c).After-take_line-taken in
    omega (arith, one_less _ (before one) (may one), ap to_take (after one))

pub loop-left-preserved : goal.loop-left-preserved
loop-left-preserved c =
    let one = (goal.at.loop-left-preserved c).After-take_line-taken in
    let l = one.loop-left in (
      inside one,
      one.take_line-taken.auto.out ∙ l.invariant.1,
      λ h.
          omega (arith, one_inside _ (before one) (may one), ap (λ (s : LinesState). s.at) (after one), ap (λ (s : LinesState). length s.out) (after one)),
      rw (after one) (way_on _ _ (before one) l.invariant.3 (may one)),
    )

pub returns : goal.returns
returns c =
    let l = c.loop-left in
    let at_test = (goal.at.returns c).After-may_take_line in
    record {
      state = way_end _ _ (here at_test) l.invariant.3 (tested at_test c.loop-left-test.false);
      used = l.invariant.0;
      place = l.invariant.2;
    }
