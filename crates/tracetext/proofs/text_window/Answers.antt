-- `tracetext::text_window` meets its contract. The loop's invariant: it is on its way from the start of the window.
use Rattle.std.proofs.Common.{◌≡◌, ◌+◌, ◌≤◌, Bool, true, length, drop, sym, refl, ap, ◌∙◌, arith, length-drop, drop-drop}
use Rattle.tracetext.specs.TextWindows.{ListState, list_state_at, may_list, list_one, ListsOne}
use Rattle.tracetext.proofs.RecordLaws.{todo, has_room_lem, one_less}
use Rattle.tracetext.proofs.WindowLaws.{way_start, way_on, way_end}
use Rattle.tracetext.proofs.text_window.Goals as goal
use Rattle.tracetext.proofs.text_window.Goals.{After-may_list, After-list_one-taken}

-- the window and the loop's variables as a state, and whether there is a record to list
abbrev here : After-may_list → ListState
here c = let l = c.loop-left in list_state_at l.run (drop l.used c.args.window.now) l.out l.next

tested : (c : After-may_list) {outcome : Bool} → c.may_list.result ≡ outcome
    → may_list c.args.last (here c) ≡ outcome
tested c e = rw c.bytes_from.ensures at (sym c.may_list.ensures ∙ e)

-- the state before a record of the loop, and after it
abbrev before : After-list_one-taken → ListState
before c = let l = c.loop-left in list_state_at l.run (drop l.used c.args.window.now) l.out l.next

may : (c : After-list_one-taken) → may_list c.args.last (before c) ≡ true
may c = rw c.bytes_from.ensures at (sym c.may_list.ensures ∙ c.loop-left-test.true)

listed : (c : After-list_one-taken) → ListsOne (before c) c.list_one-taken.result c.list_one-taken.new.out
listed c = rw c.bytes_from-left.ensures at c.list_one-taken.ensures

after : (c : After-list_one-taken)
    → let r = c.list_one-taken.result in
    list_state_at r.run (drop (c.loop-left.used + r.used) c.args.window.now) c.list_one-taken.new.out r.next
    ≡ list_one (before c)
after c = rw (sym (drop-drop c.list_one-taken.result.used c.loop-left.used c.args.window.now)) (listed c).state

-- the bytes that are passed are inside the window
inside : (c : After-list_one-taken) → c.loop-left.used + c.list_one-taken.result.used ≤ length c.args.window.now
inside c =
    let l = c.loop-left in
    omega (arith, l.invariant.0, (listed c).used, length-drop l.used c.args.window.now)

pub loop-left-init : goal.loop-left-init
loop-left-init c = (omega arith, refl, λ h. h, way_start _ _)

pub list_one-taken-requires : goal.list_one-taken-requires
list_one-taken-requires c =
    let at_test = (goal.at.list_one-taken-requires c).After-may_list in
    has_room_lem _ (here at_test) (tested at_test c.loop-left-test.true)

pub loop-left-smaller : goal.loop-left-smaller
loop-left-smaller c =
    let one = (goal.at.loop-left-smaller c).After-list_one-taken in
    omega (arith, one_less _ (before one) (may one), ap todo (after one))

pub loop-left-preserved : goal.loop-left-preserved
loop-left-preserved c =
    let one = (goal.at.loop-left-preserved c).After-list_one-taken in
    let l = one.loop-left in (
      inside one,
      one.list_one-taken.auto.out ∙ l.invariant.1,
      λ h. (listed one).place,
      rw (after one) (way_on _ _ (before one) l.invariant.3 (may one)),
    )

pub returns : goal.returns
returns c =
    let l = c.loop-left in
    let at_test = (goal.at.returns c).After-may_list in
    record {
      state = way_end _ _ (here at_test) l.invariant.3 (tested at_test c.loop-left-test.false);
      used = l.invariant.0;
      place = l.invariant.2;
    }
