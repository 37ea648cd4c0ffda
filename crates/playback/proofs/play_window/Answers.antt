-- `playback::play_window` meets its contract. The loop's invariant: it is on its way from the start of the window.
use Rattle.std.proofs.Common.{◌≡◌, ℕ, ◌+◌, true, List, length, drop, sym, ap, ◌∙◌, arith, length-drop, drop-drop}
use Rattle.playback.specs.declared.Session.{Session}
use Rattle.playback.specs.declared.WindowPlayed.{WindowPlayed}
use Rattle.playback.specs.Windows.{WindowState, state_at, may_play, play_one}
use Rattle.playback.specs.PrivateContracts.{PlaysOne}
use Rattle.playback.proofs.WindowLaws.{has_room_lem, one_inside, one_less, way_on, way_end}
use Rattle.playback.proofs.play_window.Goals as goal

-- the state after a record of the window
after : (window : List ℕ) (used : ℕ) {session : Session} {packets out : List ℕ} {next : ℕ}
    → (result : WindowPlayed) {packets' out' : List ℕ}
    → PlaysOne (state_at session (drop used window) packets out next) result packets' out'
    → state_at result.session (drop (used + result.used) window) packets' out' result.next
    ≡ play_one (state_at session (drop used window) packets out next)
after window used result played = rw (sym (drop-drop result.used used window)) played.state

pub play_one-played-requires : goal.play_one-played-requires
play_one-played-requires c =
    let l = c.loop-left in
    let here = state_at l.session (drop l.used c.args.window.now) l.packets l.out l.next in
    let may : may_play c.args.last here ≡ true = rw c.bytes_from.ensures at (sym c.may_play.ensures ∙ c.loop-left-test.true) in
    has_room_lem c.args.last here may

pub loop-left-smaller : goal.loop-left-smaller
loop-left-smaller c =
    let l = c.loop-left in
    let window = c.args.window.now in
    let here = state_at l.session (drop l.used window) l.packets l.out l.next in
    let may : may_play c.args.last here ≡ true = rw c.bytes_from.ensures at (sym c.may_play.ensures ∙ c.loop-left-test.true) in
    let then = after window l.used c.play_one-played.result (rw c.bytes_from-left.ensures at c.play_one-played.ensures) in
    omega (arith, one_less c.args.last here may, ap (λ (s : WindowState). length s.left) then)

pub loop-left-preserved : goal.loop-left-preserved
loop-left-preserved c =
    let l = c.loop-left in
    let window = c.args.window.now in
    let here = state_at l.session (drop l.used window) l.packets l.out l.next in
    let may : may_play c.args.last here ≡ true = rw c.bytes_from.ensures at (sym c.may_play.ensures ∙ c.loop-left-test.true) in
    let played = rw c.bytes_from-left.ensures at c.play_one-played.ensures in
    let then = after window l.used c.play_one-played.result played in (
      omega (arith, l.invariant.0, played.used, length-drop l.used window),
      c.play_one-played.auto.packets ∙ l.invariant.1,
      c.play_one-played.auto.out ∙ l.invariant.2,
      λ h. omega (arith, one_inside c.args.last here may, ap (λ (s : WindowState). s.at) then, ap (λ (s : WindowState). length s.out) then),
      rw then (way_on _ _ here l.invariant.4 may),
    )

pub returns : goal.returns
returns c =
    let l = c.loop-left in
    let here = state_at l.session (drop l.used c.args.window.now) l.packets l.out l.next in
    record {
      state = way_end _ _ here l.invariant.4 (rw c.bytes_from.ensures at (sym c.may_play.ensures ∙ c.loop-left-test.false));
      used = l.invariant.0;
      place = l.invariant.3;
    }
