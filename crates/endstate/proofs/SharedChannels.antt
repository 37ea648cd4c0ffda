-- What `same-channel` finds: two ports with such routes, and the origins of these.
-- Assumes nothing.
use mathlib.Core.Path.{◌≡◌, refl, sym, ◌∙◌}
use mathlib.Core.Bool.{Bool, true, false}
use mathlib.Core.List.Memᴰ
use mathlib.Core.List.{List, [], Memᴰ}
use mathlib.Core.Logic.{◌⊎◌, inl, inr, ⊎_elim}
use Prim.Native.Nat.{ℕ, zero, suc, ◌<◌}
use native.Mathlib.Omega.{arith}
use lib.Dec.{lit<}
use Rattle.laws.proofs.Absurd.{zero_not_one}
use Rattle.formats.specs.declared.Format.{Format}
use Rattle.hub.specs.declared.Hub.{Hub}
use Rattle.ports.specs.PortMasks.{port_mask}
use Rattle.origins.specs.declared.RegistersWithOrigins.{RegistersWithOrigins}
use Rattle.origins.specs.Origins.{port_register}
use Rattle.origins.specs.KeptOrigins.{kept_number}
use Rattle.clashes.specs.Channels.{leaves_on, channel_shared}
use Rattle.clashes.proofs.ChannelLaws.{leaves_on_exact, channel_shared_exact}
use Rattle.endstate.specs.LineRows.{RowHas}
use Rattle.endstate.specs.Findings.{is_found}
use Rattle.endstate.specs.Channels.{if_in, port_numbers, identifier_register, asks_for_lines, channel_origins}
use Rattle.endstate.specs.Channels.{same_channel, RouteOrigin, SameChannelExact}
use Rattle.endstate.proofs.FindingLaws.{every_sharing, shared_held}
use Rattle.endstate.proofs.ChannelLaws.{four_at_most}

-- a number that one port more adds
module _ {number : ℕ} where
  in_only : (is-in : Bool) (own : ℕ) (others : List ℕ) → Memᴰ number (if_in is-in own others)
      → ((is-in ≡ true) × (own ≡ number)) ⊎ Memᴰ number others
  in_only true own others m = ⊎_elim (λ e. inl (refl, sym e)) (λ t. inr t) (Memᴰ.cases_cons m)
  in_only false own others m = inr m

  in_own : (is-in : Bool) (own : ℕ) (others : List ℕ) → is-in ≡ true → own ≡ number
      → Memᴰ number (if_in is-in own others)
  in_own true own others e q = Memᴰ.head (sym q)
  in_own false own others e q = zero_not_one (cc)

  in_others : (is-in : Bool) (own : ℕ) (others : List ℕ) → Memᴰ number others
      → Memᴰ number (if_in is-in own others)
  in_others true own others m = Memᴰ.tail m
  in_others false own others m = m

-- a port of which it holds, with its number
record PortWith (holds : ℕ → Bool) (number : ℕ → ℕ) (wanted : ℕ) : Type 0 where
  port : ℕ
  within : port < 4
  member : holds port ≡ true
  own : number port ≡ wanted

module _ (holds : ℕ → Bool) (number : ℕ → ℕ) (wanted : ℕ) where
  abbrev from : ℕ → List ℕ → List ℕ
  from port others = if_in (holds port) (number port) others

  port_with : (port : ℕ) → port < 4 → (holds port ≡ true) × (number port ≡ wanted) → PortWith holds number wanted
  port_with port h p = record { port = port; within = h; member = p.0; own = p.1 }

  numbers_only : Memᴰ wanted (port_numbers holds number) → PortWith holds number wanted
  unfolding port_numbers
  numbers_only m =
      ⊎_elim (port_with 0 (lit< tt)) (λ m1.
      ⊎_elim (port_with 1 (lit< tt)) (λ m2.
      ⊎_elim (port_with 2 (lit< tt)) (λ m3.
      ⊎_elim (port_with 3 (lit< tt)) (λ m4. absurd (elim m4 [ ]))
      (in_only (holds 3) (number 3) [] m3))
      (in_only (holds 2) (number 2) (from 3 []) m2))
      (in_only (holds 1) (number 1) (from 2 (from 3 [])) m1))
      (in_only (holds 0) (number 0) (from 1 (from 2 (from 3 []))) m)

  numbers_every : (port : ℕ) → port < 4 → holds port ≡ true → number port ≡ wanted
      → Memᴰ wanted (port_numbers holds number)
  unfolding port_numbers
  numbers_every zero h e q = in_own (holds 0) (number 0) (from 1 (from 2 (from 3 []))) e q
  numbers_every (suc zero) h e q =
      in_others (holds 0) (number 0) (from 1 (from 2 (from 3 [])))
      (in_own (holds 1) (number 1) (from 2 (from 3 [])) e q)
  numbers_every (suc (suc zero)) h e q =
      in_others (holds 0) (number 0) (from 1 (from 2 (from 3 [])))
      (in_others (holds 1) (number 1) (from 2 (from 3 [])) (in_own (holds 2) (number 2) (from 3 []) e q))
  numbers_every (suc (suc (suc zero))) h e q =
      in_others (holds 0) (number 0) (from 1 (from 2 (from 3 [])))
      (in_others (holds 1) (number 1) (from 2 (from 3 []))
      (in_others (holds 2) (number 2) (from 3 []) (in_own (holds 3) (number 3) [] e q)))
  numbers_every (suc (suc (suc (suc port)))) h e q = absurd (omega arith)

module _ (hub : Hub) (state : RegistersWithOrigins) (format : Format) (out channel : ℕ) where
  abbrev holds : ℕ → Bool
  holds = leaves_on hub format out channel

  found_is : is_found (same_channel hub state format out channel) ≡ channel_shared hub format out channel
  unfolding same_channel
  found_is =
      (every_sharing (port_mask holds) (channel_origins hub state format out channel)
      (asks_for_lines hub.registers out)
      ).found

  abbrev own : ℕ → ℕ
  own port = kept_number state (port_register port (identifier_register format))

  origin_only_lem : (number : ℕ) → Memᴰ number (channel_origins hub state format out channel)
      → RouteOrigin hub state format out channel number
  origin_only_lem number m =
      let p = numbers_only holds own number m in
      record {
        port = p.port;
        within = p.within;
        route = (leaves_on_exact hub format out channel p.port).only p.member;
        origin = p.own;
      }

  origin_every_lem : (number : ℕ) → RouteOrigin hub state format out channel number
      → Memᴰ number (channel_origins hub state format out channel)
  origin_every_lem number r =
      numbers_every holds own number r.port r.within
      ((leaves_on_exact hub format out channel r.port).every r.route) r.origin

  row_held : RowHas (same_channel hub state format out channel).lines
  unfolding same_channel
  row_held =
      let few = four_at_most holds own in
      shared_held (port_mask holds) (channel_origins hub state format out channel) (asks_for_lines hub.registers out)
      (omega (arith, few))

pub same_channel_exact : SameChannelExact
same_channel_exact hub state format out channel =
    record {
      only = λ e. (channel_shared_exact hub format out channel).only (sym (found_is hub state format out channel) ∙ e);
      every = λ t. found_is hub state format out channel ∙ (channel_shared_exact hub format out channel).every t;
      origin_only = origin_only_lem hub state format out channel;
      origin_every = origin_every_lem hub state format out channel;
      held = row_held hub state format out channel;
    }
