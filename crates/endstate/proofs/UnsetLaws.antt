-- The definitions of specs/Unset.antt by their cases, and the law of it.
-- Assumes nothing.
use mathlib.Core.Path.{◌≡◌, refl}
use mathlib.Core.Bool.{Bool, true, false, not, ◌&&◌}
use Prim.Native.Nat.{ℕ, ◌<◌}
use borrow.Author.Tests.{eq-eqb, ne_eqb, eqb-true, eqb-false, not-true}
use lib.Dec.{eqb}
use Rattle.laws.proofs.Absurd.{zero_not_one}
use Rattle.laws.proofs.Bools.{both}
use Rattle.origins.specs.declared.RegistersWithOrigins.{RegistersWithOrigins}
use Rattle.origins.specs.Origins.{port_register}
use Rattle.origins.specs.KeptOrigins.{kept_number}
use Rattle.clashes.specs.Channels.{is_forwarded}
use Rattle.clashes.proofs.AddressLaws.{any_hit, any_found}
use Rattle.endstate.specs.Unset.{has_origin, was_reached, other_reached, another_reached, not_set_up}
use Rattle.endstate.specs.Unset.{ReachedRegister, NotSetUpExact}

module _ (state : RegistersWithOrigins) (port offset : ℕ) {number : ℕ}
    (e : number ≡ kept_number state (port_register port offset)) where
  pub has_origin_lem : (number ≡ 0 → ⊥) → has_origin state port offset ≡ true
  has_origin_lem n = rw (← e, ne_eqb number 0 n)

  pub no_origin : number ≡ 0 → has_origin state port offset ≡ false
  no_origin z = rw (← e, eq-eqb number 0 z)

-- a port was reached exactly where one of its registers has an origin
module _ (state : RegistersWithOrigins) (port : ℕ) where
  reached_only : was_reached state port ≡ true → ReachedRegister state port
  unfolding was_reached
  reached_only e =
      let f = any_found (has_origin state port) 256 e in
      record {
        offset = f.place;
        within = f.within;
        origin = eqb-false (kept_number state (port_register port f.place)) 0 (not-true _ f.holds);
      }

  reached_every : ReachedRegister state port → was_reached state port ≡ true
  unfolding was_reached
  reached_every r =
      any_hit (has_origin state port) 256 r.offset r.within (has_origin_lem state port r.offset refl r.origin)

  unreached_only : was_reached state port ≡ false → (offset : ℕ) → offset < 256
      → kept_number state (port_register port offset) ≡ 0
  unreached_only e offset h = go (eqb (kept_number state (port_register port offset)) 0) refl
    where
      go : (b : Bool) → eqb (kept_number state (port_register port offset)) 0 ≡ b
          → kept_number state (port_register port offset) ≡ 0
      go true q = eqb-true (kept_number state (port_register port offset)) 0 q
      go false q =
          let t = reached_every (record { offset = offset; within = h; origin = eqb-false _ 0 q }) in
          zero_not_one (cc)

  unreached_every : ((offset : ℕ) → offset < 256 → kept_number state (port_register port offset) ≡ 0)
      → was_reached state port ≡ false
  unreached_every h = go (was_reached state port) refl
    where
      go : (b : Bool) → was_reached state port ≡ b → b ≡ false
      go false q = refl
      go true q = let r = reached_only q in absurd (r.origin (h r.offset r.within))

pub not_set_up_exact : NotSetUpExact
unfolding not_set_up another_reached
not_set_up_exact hub state port =
    record {
      only = λ e.
          (let b = both (is_forwarded hub port) (not (was_reached state port) && another_reached state port) e in
          let s = both (not (was_reached state port)) (another_reached state port) b.1 in
          let f = any_found (other_reached state port) 4 s.1 in
          let o = both (not (eqb f.place port)) (was_reached state f.place) f.holds in
          record {
            forwarded = b.0;
            unreached = unreached_only state port (not-true _ s.0);
            other = f.place;
            within = f.within;
            another = eqb-false f.place port (not-true _ o.0);
            reached = reached_only state f.place o.1;
          });
      every = λ n.
          (let there : other_reached state port n.other ≡ true =
          rw (ne_eqb n.other port n.another) (reached_every state n.other n.reached) in
          rw (n.forwarded, unreached_every state port n.unreached)
          (any_hit (other_reached state port) 4 n.other n.within there));
    }
