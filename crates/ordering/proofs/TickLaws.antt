-- The definitions of specs/Ticks.antt by their cases.
-- Assumes nothing.
use Rattle.std.proofs.Common.{◌≡◌, ℕ, zero, suc, ◌+◌, ◌<◌, ◌≤◌, Bool, true, false, cond, ◌&&◌, ◌||◌, eqb, length, get_or, set, sym, refl, ap, ◌∙◌, add-one, arith, lit<, length-set, get_or-set_other, get_or-set_same, eqb-true}
use borrow.Author.Tests.{eqb-false}
use lib.ListN.{get_or-eq_default}
use Rattle.laws.specs.Bits.{bit}
use Rattle.laws.proofs.Absurd.{zero_not_one}
use Rattle.laws.proofs.Bools.{both}
use Rattle.std.specs.Prelude.{Option, None, Some}
use Rattle.ordering.specs.declared.ticks.Ticks.{Ticks}
use Rattle.ordering.specs.Ticks.{was_ticked, no_ticks, last_tick, with_tick, with_ticks}
use Rattle.ordering.specs.Ticks.{ticks_again, any_again}

module _ (ticks : Ticks) where
  -- there is no port above 3
  pub no_port_lem : (port : ℕ) → length ticks.ports ≡ 4 → 3 < port → last_tick ticks port ≡ None
  unfolding last_tick
  no_port_lem port count h =
      get_or-eq_default ticks.ports None {n = port} (omega (arith, count))

  module _ (number value port : ℕ) where
    pub port_unticked : bit port value ≡ false → with_tick ticks number value port ≡ ticks
    unfolding with_tick
    port_unticked e = rw e

    pub port_ticked : bit port value ≡ true
        → with_tick ticks number value port ≡ record { ports = set ticks.ports port (Some number) }
    unfolding with_tick
    port_ticked e = rw e

  module _ (value port : ℕ) where
    pub not-again : bit port value ≡ false → ticks_again ticks value port ≡ false
    unfolding ticks_again
    not-again e = rw e

    pub again_by : bit port value ≡ true → ticks_again ticks value port ≡ was_ticked (last_tick ticks port)
    unfolding ticks_again
    again_by e = rw e

-- a selection, for the ports below one
unfoldable pub ticked_below : Ticks → ℕ → ℕ → ℕ → Ticks
ticked_below ticks number value zero = ticks
ticked_below ticks number value (suc port) = with_tick (ticked_below ticks number value port) number value port

module _ (ticks : Ticks) (number value : ℕ) where
  pub ticked_port : (port : ℕ) (next : Ticks) → next ≡ ticked_below ticks number value port → bit port value ≡ true
      → record { ports = set next.ports port (Some number) } ≡ ticked_below ticks number value (port + 1)
  unfolding with_tick ticked_below
  ticked_port port next e b = rw (add-one port, ← e, b)

  pub other_port : (port : ℕ) (next : Ticks) → next ≡ ticked_below ticks number value port → bit port value ≡ false
      → next ≡ ticked_below ticks number value (port + 1)
  unfolding with_tick ticked_below
  other_port port next e b = rw (add-one port, ← e, b)

  pub four_ticked : (end : ℕ) → 4 ≤ end → end ≤ 4
      → ticked_below ticks number value end ≡ with_ticks ticks number value
  unfolding with_ticks ticked_below
  four_ticked end low high = let e : end ≡ 4 = omega arith in rw e

-- after a selection: a port that it ticks has its number, and any other keeps what it had
module _ (number value : ℕ) where
  one_length : (ticks : Ticks) (other : ℕ) → length (with_tick ticks number value other).ports ≡ length ticks.ports
  unfolding with_tick
  one_length ticks other = go (bit other value)
    where
      go : (b : Bool)
          → length (cond b (record { ports = set ticks.ports other (Some number) }) ticks).ports
          ≡ length ticks.ports
      go true = length-set ticks.ports other (Some number)
      go false = refl

  one_ticked : (ticks : Ticks) (other port : ℕ) → length ticks.ports ≡ 4 → other < 4
      → last_tick (with_tick ticks number value other) port
      ≡ cond (eqb port other && bit other value) (Some number) (last_tick ticks port)
  unfolding last_tick with_tick
  one_ticked ticks other port count h = go (eqb port other) (bit other value) refl
    where
      go : (a b : Bool) → eqb port other ≡ a
          → get_or (cond b (record { ports = set ticks.ports other (Some number) }) ticks).ports port None
          ≡ cond (a && b) (Some number) (get_or ticks.ports port None)
      go true true e =
          rw (eqb-true port other e) (get_or-set_same ticks.ports other (Some number) None (omega (arith, count)))
      go true false e = refl
      go false true e = get_or-set_other ticks.ports other port (Some number) None (eqb-false port other e)
      go false false e = refl

  pub all-length : (ticks : Ticks) → length (with_ticks ticks number value).ports ≡ length ticks.ports
  unfolding with_ticks
  all-length ticks =
      let a = with_tick ticks number value 0 in
      let b = with_tick a number value 1 in
      let d = with_tick b number value 2 in
      one_length d 3 ∙ one_length b 2 ∙ one_length a 1 ∙ one_length ticks 0

  abbrev by : ℕ → ℕ → Option ℕ → Option ℕ
  by port other t = cond (eqb port other && bit other value) (Some number) t

  pub all-ticked : (ticks : Ticks) → length ticks.ports ≡ 4 → (port : ℕ) → port < 4
      → last_tick (with_ticks ticks number value) port ≡ cond (bit port value) (Some number) (last_tick ticks port)
  unfolding with_ticks
  all-ticked ticks count port h = chain port ∙ chosen port h
    where
      chain : (p : ℕ)
          → last_tick (with_ticks ticks number value) p ≡ by p 3 (by p 2 (by p 1 (by p 0 (last_tick ticks p))))
      chain p =
          let a = with_tick ticks number value 0 in
          let b = with_tick a number value 1 in
          let d = with_tick b number value 2 in
          let ca : length a.ports ≡ 4 = one_length ticks 0 ∙ count in
          let cb : length b.ports ≡ 4 = one_length a 1 ∙ ca in
          one_ticked d 3 p (one_length b 2 ∙ cb) (omega arith)
          ∙ ap (by p 3) (one_ticked b 2 p cb (omega arith)
          ∙ ap (by p 2) (one_ticked a 1 p ca (omega arith)
          ∙ ap (by p 1) (one_ticked ticks 0 p count (omega arith))))

      chosen : (p : ℕ) → p < 4
          → by p 3 (by p 2 (by p 1 (by p 0 (last_tick ticks p)))) ≡ cond (bit p value) (Some number) (last_tick ticks p)
      chosen zero k = refl
      chosen (suc zero) k = refl
      chosen (suc (suc zero)) k = refl
      chosen (suc (suc (suc zero))) k = refl
      chosen (suc (suc (suc (suc n)))) k = absurd (omega arith)

-- at first no port was ticked
pub none_length : length no_ticks.ports ≡ 4
unfolding no_ticks
none_length = refl

pub none_ticked : (port : ℕ) → port < 4 → last_tick no_ticks port ≡ None
unfolding no_ticks last_tick
none_ticked zero h = refl
none_ticked (suc zero) h = refl
none_ticked (suc (suc zero)) h = refl
none_ticked (suc (suc (suc zero))) h = refl
none_ticked (suc (suc (suc (suc n)))) h = absurd (omega arith)

-- a selection that ticks no port again: of a port that it ticks there was no tick
either : (a b : Bool) → (a || b) ≡ false → (a ≡ false) × (b ≡ false)
either true b e = zero_not_one (cc)
either false b e = (refl, e)

pub not-any_again : (ticks : Ticks) (value : ℕ) → any_again ticks value ≡ false → (port : ℕ) → port < 4
    → ticks_again ticks value port ≡ false
unfolding any_again
not-any_again ticks value e port h =
    let a = either (ticks_again ticks value 0) _ e in
    let b = either (ticks_again ticks value 1) _ a.1 in
    let d = either (ticks_again ticks value 2) _ b.1 in
    go port h a.0 b.0 d.0 d.1
  where
    go : (p : ℕ) → p < 4 → ticks_again ticks value 0 ≡ false → ticks_again ticks value 1 ≡ false
        → ticks_again ticks value 2 ≡ false → ticks_again ticks value 3 ≡ false → ticks_again ticks value p ≡ false
    go zero k p0 p1 p2 p3 = p0
    go (suc zero) k p0 p1 p2 p3 = p1
    go (suc (suc zero)) k p0 p1 p2 p3 = p2
    go (suc (suc (suc zero))) k p0 p1 p2 p3 = p3
    go (suc (suc (suc (suc n)))) k p0 p1 p2 p3 = absurd (omega arith)

pub none_again : (ticks : Ticks) (value : ℕ) → any_again ticks value ≡ false → (port : ℕ) → port < 4
    → bit port value ≡ true → was_ticked (last_tick ticks port) ≡ false
none_again ticks value e port h b = sym (again_by ticks value port b) ∙ not-any_again ticks value e port h

pub again_none : (ticks : Ticks) (value port : ℕ) → (bit port value && was_ticked (last_tick ticks port)) ≡ false
    → ticks_again ticks value port ≡ false
unfolding ticks_again
again_none ticks value port e = e

pub any_by : (ticks : Ticks) (value : ℕ) → ((port : ℕ) → port < 4 → ticks_again ticks value port ≡ false)
    → any_again ticks value ≡ false
unfolding any_again
any_by ticks value each = rw (each 0 (lit< tt), each 1 (lit< tt), each 2 (lit< tt), each 3 (lit< tt))

pub again_by_port : (ticks : Ticks) (value port : ℕ) → port < 4 → ticks_again ticks value port ≡ true
    → any_again ticks value ≡ true
again_by_port ticks value port h e = go (any_again ticks value) refl
  where
    go : (b : Bool) → any_again ticks value ≡ b → b ≡ true
    go true q = refl
    go false q = sym (not-any_again ticks value q port h) ∙ e

-- a port that a selection ticks again
pub record AgainAt (ticks : Ticks) (value : ℕ) : Type 0 where
  pub port : ℕ
  pub number : ℕ
  pub small : port < 4
  pub ticked : bit port value ≡ true
  pub earlier : last_tick ticks port ≡ Some number

again_at : (ticks : Ticks) (value port : ℕ) → port < 4 → ticks_again ticks value port ≡ true → AgainAt ticks value
unfolding ticks_again
again_at ticks value port h e =
    let b = both (bit port value) (was_ticked (last_tick ticks port)) e in go (last_tick ticks port) refl b.0 b.1
  where
    go : (t : Option ℕ) → last_tick ticks port ≡ t → bit port value ≡ true → was_ticked t ≡ true → AgainAt ticks value
    go None q b t = zero_not_one (cc)
    go (Some number) q b t = record { port = port; number = number; small = h; ticked = b; earlier = q }

pub some_again : (ticks : Ticks) (value : ℕ) → any_again ticks value ≡ true → AgainAt ticks value
unfolding any_again
some_again ticks value e =
    go (ticks_again ticks value 0) (ticks_again ticks value 1) (ticks_again ticks value 2) refl refl refl e
  where
    go : (a b d : Bool) → ticks_again ticks value 0 ≡ a → ticks_again ticks value 1 ≡ b → ticks_again ticks value 2 ≡ d
        → (a || (b || (d || ticks_again ticks value 3))) ≡ true → AgainAt ticks value
    go true b d ea eb ed q = again_at ticks value 0 (lit< tt) ea
    go false true d ea eb ed q = again_at ticks value 1 (lit< tt) eb
    go false false true ea eb ed q = again_at ticks value 2 (lit< tt) ed
    go false false false ea eb ed q = again_at ticks value 3 (lit< tt) q

pub any-again : (ticks : Ticks) (value port : ℕ) → port < 4 → bit port value ≡ true
    → was_ticked (last_tick ticks port) ≡ true → any_again ticks value ≡ true
any-again ticks value port h b t = go (any_again ticks value) refl
  where
    go : (c : Bool) → any_again ticks value ≡ c → c ≡ true
    go true e = refl
    go false e = sym (none_again ticks value e port h b) ∙ t
