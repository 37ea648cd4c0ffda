-- The definitions of specs/Addresses.antt by their cases, and the laws of it.
-- Assumes nothing.
use Rattle.std.proofs.Common.{length, get_or, drop, drop-cons, drop_of_length-le, ◌≤◌, ne_eqb}
use Rattle.std.specs.Prelude.{None, Some, slice_get}
use Rattle.std.proofs.lemmas.Option.{slice_get_within, get_or_from_slice_get, slice_get_cases}
use mathlib.Core.Path.{◌≡◌, refl, sym, ap, ◌∙◌}
use mathlib.Core.Bool.{Bool, true, false, cond, not}
use mathlib.Core.List.{List, [], ◌∷◌, Memᴰ}
use mathlib.Core.Logic.{◌⊎◌, inl, inr}
use Prim.Native.Nat.{ℕ, zero, suc, ◌+◌, ◌<◌}
use native.Mathlib.Nat.{eq-or-lt_of_le, le_of_suc-le-suc}
use native.Mathlib.Numerals.{add-one}
use native.Mathlib.Omega.{arith}
use borrow.Author.Tests.{eq-eqb, eqb-true, lt-ltb, ltb-true, ltb-false, not-true}
use lib.Dec.{eqb, ltb}
use Rattle.laws.specs.Reply.{Reply, refused_with, given}
use Rattle.laws.proofs.Absurd.{zero_not_one}
use Rattle.laws.proofs.Bools.{both}
use Rattle.hub.specs.declared.Hub.{Hub}
use Rattle.translation.specs.declared.PortDevice.{PortDevice}
use Rattle.translation.specs.declared.Devices.{Devices}
use Rattle.translation.specs.Translation.{Addressed, the_hub, no_device, found, devices_of, addressee_of, who_hears_write}
use Rattle.clashes.specs.Channels.{is_forwarded}
use Rattle.clashes.specs.Addresses.{any_behind, answer_reaches, address_reaches, any_below, is_reached, has_no_address}
use Rattle.clashes.specs.Addresses.{Hearer, AddressReachesExact, AddressSharedExact, ReachedMeans, ReachedExact}
use Rattle.clashes.specs.Addresses.{address_shared, OnlyTheseAddresses, NoAddressExact}
use Rattle.clashes.proofs.TwoPorts.{two_only, two_every}

-- a device behind the port
record Behind (port : ℕ) (devices : List PortDevice) : Type 0 where
  device : PortDevice
  member : Memᴰ device devices
  behind : device.port ≡ port

behind_found : (port : ℕ) (devices : List PortDevice) → any_behind port devices ≡ true → Behind port devices
unfolding any_behind
behind_found port [] e = zero_not_one (cc)
behind_found port (device ∷ devices) e = go (eqb device.port port) refl e (behind_found port devices)
  where
    go : (b : Bool) → eqb device.port port ≡ b → cond b true (any_behind port devices) ≡ true
        → (any_behind port devices ≡ true → Behind port devices) → Behind port (device ∷ devices)
    go true t q rest =
        record { device = device; member = Memᴰ.head refl; behind = eqb-true device.port port t }
    go false t q rest =
        let f = rest q in record { device = f.device; member = Memᴰ.tail f.member; behind = f.behind }

behind_hit : (port : ℕ) (devices : List PortDevice) (device : PortDevice) → Memᴰ device devices
    → device.port ≡ port → any_behind port devices ≡ true
unfolding any_behind
behind_hit port [] device m e = elim m [ ]
behind_hit port (first ∷ devices) device (Memᴰ.head q) e =
    let own : first.port ≡ port = ap (λ (d : PortDevice). d.port) (sym q) ∙ e in rw (eq-eqb first.port port own)
behind_hit port (first ∷ devices) device (Memᴰ.tail m) e =
    go (eqb first.port port) (behind_hit port devices device m e)
  where
    go : (b : Bool) → any_behind port devices ≡ true → cond b true (any_behind port devices) ≡ true
    go true h = refl
    go false h = h

-- the devices from a place on
module _ (devices : List PortDevice) where
  from_here : (k : ℕ) (device : PortDevice) → slice_get devices k ≡ Some device
      → drop k devices ≡ device ∷ drop (k + 1) devices
  from_here k device e =
      let h : k < length devices = slice_get_within devices k device e in
      rw (add-one k, drop-cons devices k device h)
      (ap (λ (d : PortDevice). d ∷ drop (suc k) devices) (get_or_from_slice_get devices k device device e))

  none_here : (k : ℕ) → slice_get devices k ≡ None → drop k devices ≡ drop (k + 1) devices
  none_here k e = go (slice_get_cases devices k).1
    where
      go : ((x : PortDevice) × (k < length devices) × (slice_get devices k ≡ Some x) × (get_or devices k x ≡ x))
          ⊎ ((length devices ≤ k) × (slice_get devices k ≡ None))
          → drop k devices ≡ drop (k + 1) devices
      go (inl s) = zero_not_one (cc)
      go (inr p) =
          rw (drop_of_length-le devices {i = k} p.0, drop_of_length-le devices {i = k + 1} (omega (arith, p.0)))

  -- the same where the place and the next one are named otherwise
  pub device_at : (k here next : ℕ) → here ≡ k → next ≡ k + 1 → (device : PortDevice)
      → slice_get devices k ≡ Some device → drop here devices ≡ device ∷ drop next devices
  device_at k here next p q device e = rw (p, q) (from_here k device e)

  pub none_at : (k here next : ℕ) → here ≡ k → next ≡ k + 1 → slice_get devices k ≡ None
      → drop here devices ≡ drop next devices
  none_at k here next p q e = rw (p, q) (none_here k e)

-- the search goes through the places one after the other
module _ (port : ℕ) (devices : List PortDevice) (k : ℕ) where
  pub behind_here : (device : PortDevice) → slice_get devices k ≡ Some device → device.port ≡ port
      → any_behind port (drop k devices) ≡ true
  unfolding any_behind
  behind_here device e b = rw (from_here devices k device e, eq-eqb device.port port b)

  pub not_here : (device : PortDevice) → slice_get devices k ≡ Some device → (device.port ≡ port → ⊥)
      → any_behind port (drop (k + 1) devices) ≡ any_behind port (drop k devices)
  unfolding any_behind
  not_here device e n = rw (from_here devices k device e, ne_eqb device.port port n)

  pub nobody_here : slice_get devices k ≡ None
      → any_behind port (drop (k + 1) devices) ≡ any_behind port (drop k devices)
  nobody_here e = ap (any_behind port) (sym (none_here devices k e))

-- there are at most four
pub none_past_four : (devices : Devices) (k : ℕ) → 4 ≤ k → drop k (devices_of devices) ≡ []
none_past_four devices k h =
    drop_of_length-le (devices_of devices) {i = k} (omega (arith, few devices))
  where
    few : (d : Devices) → length (devices_of d) ≤ 4
    few (Devices.One a) = omega arith
    few (Devices.Two a b) = omega arith
    few (Devices.Three a b c) = omega arith
    few (Devices.Four a b c d) = omega arith

pub past_four : (port : ℕ) (devices : Devices) (k : ℕ) → 4 ≤ k → any_behind port (drop k (devices_of devices)) ≡ false
unfolding any_behind
past_four port devices k h = rw (none_past_four devices k h)

pub address_reaches_exact : AddressReachesExact
unfolding address_reaches
address_reaches_exact hub address port =
    record {
      only = λ e. there (who_hears_write hub address) refl e;
      every = λ h.
          (let w = h.hears in
          rw w.answer (behind_hit port w.devices h.device w.member h.behind));
    }
  where
    there : (reply : Reply (Addressed (List PortDevice))) → who_hears_write hub address ≡ reply
        → answer_reaches port reply ≡ true → Hearer hub address port
    there (refused_with number detail) r e = zero_not_one (cc)
    there (given the_hub) r e = zero_not_one (cc)
    there (given no_device) r e = zero_not_one (cc)
    there (given (found devices)) r e =
        let f = behind_found port devices e in
        record {
          device = f.device;
          hears = record { devices = devices; answer = r; member = f.member };
          behind = f.behind;
        }

pub address_shared_exact : AddressSharedExact
address_shared_exact hub address =
    record {
      only = λ e.
          (let t = two_only (address_reaches hub address) e in
          record {
            low = t.low;
            high = t.high;
            rising = t.rising;
            within = t.within;
            first = (address_reaches_exact hub address t.low).only t.first;
            second = (address_reaches_exact hub address t.high).only t.second;
          });
      every = λ t.
          two_every (address_reaches hub address) t.low t.high t.rising t.within
          ((address_reaches_exact hub address t.low).every t.first)
          ((address_reaches_exact hub address t.high).every t.second);
    }

-- a search that found one, that goes on, and that found none
module _ (test : ℕ → Bool) where
  pub any_hit : (n k : ℕ) → k < n → test k ≡ true → any_below test n ≡ true
  unfolding any_below
  any_hit zero k h t = absurd (omega arith)
  any_hit (suc n) k h t = go (eq-or-lt_of_le (le_of_suc-le-suc h)) (any_hit n k)
    where
      last : (b : Bool) → any_below test n ≡ true → cond b true (any_below test n) ≡ true
      last true e = refl
      last false e = e

      go : (k ≡ n) ⊎ (k < n) → (k < n → test k ≡ true → any_below test n ≡ true)
          → cond (test n) true (any_below test n) ≡ true
      go (inl e) ih = rw (← e, t)
      go (inr l) ih = last (test n) (ih l t)

  pub any-more : (n : ℕ) → any_below test n ≡ false → test n ≡ false → any_below test (n + 1) ≡ false
  unfolding any_below
  any-more n e t = rw (add-one n, t) e

  pub any_none : any_below test 0 ≡ false
  unfolding any_below
  any_none = refl

  pub record Found (n : ℕ) : Type 0 where
    pub place : ℕ
    pub within : place < n
    pub holds : test place ≡ true

  pub any_found : (n : ℕ) → any_below test n ≡ true → Found n
  unfolding any_below
  any_found zero e = zero_not_one (cc)
  any_found (suc n) e = go (test n) refl e (any_found n)
    where
      go : (b : Bool) → test n ≡ b → cond b true (any_below test n) ≡ true → (any_below test n ≡ true → Found n)
          → Found (suc n)
      go true t q ih = record { place = n; within = omega arith; holds = t }
      go false t q ih =
          let f = ih q in record { place = f.place; within = omega (arith, f.within); holds = f.holds }

module _ (hub : Hub) (port : ℕ) where
  pub reached_hit : (address : ℕ) → address < 128 → address_reaches hub address port ≡ true → is_reached hub port ≡ true
  unfolding is_reached
  reached_hit address h t = any_hit (λ a. address_reaches hub a port) 128 address h t

  pub reached_none_lem : (n : ℕ) → n ≡ 128 → any_below (λ a. address_reaches hub a port) n ≡ false
      → is_reached hub port ≡ false
  unfolding is_reached
  reached_none_lem n e q = rw e at q

  -- an address above 0x7F is refused, so it reaches no port
  high : (address : ℕ) → 127 < address → address_reaches hub address port ≡ false
  unfolding address_reaches who_hears_write addressee_of
  high address h = rw (lt-ltb 127 address h)

  pub reached_means : ReachedMeans hub port
  unfolding is_reached
  reached_means =
      record {
        only = λ e.
            (let f = any_found (λ a. address_reaches hub a port) 128 e in
            record { address = f.place; reached = f.holds });
        every = λ r. go r.address r.reached (ltb 127 r.address) refl;
      }
    where
      go : (address : ℕ) → address_reaches hub address port ≡ true → (b : Bool) → ltb 127 address ≡ b
          → any_below (λ a. address_reaches hub a port) 128 ≡ true
      go address t true q = let f = high address (ltb-true 127 address q) in zero_not_one (cc)
      go address t false q =
          any_hit (λ a. address_reaches hub a port) 128 address (omega (arith, ltb-false 127 address q)) t

pub reached_exact : ReachedExact
reached_exact hub port = reached_means hub port

pub only_these_addresses : OnlyTheseAddresses
only_these_addresses hub address h =
    record { unreached = λ port. high hub port address h; unshared = go (address_shared hub address) refl }
  where
    go : (b : Bool) → address_shared hub address ≡ b → b ≡ false
    go false e = refl
    go true e =
        let t = two_only (address_reaches hub address) e in
        let f = high hub t.low address h in
        let r = t.first in
        zero_not_one (cc)

-- a port is reached exactly where a device behind it hears a write to some address
module _ (hub : Hub) (port : ℕ) where
  heard : (address : ℕ) → Hearer hub address port → is_reached hub port ≡ true
  heard address h =
      (reached_exact hub port).every
      (record { address = address; reached = (address_reaches_exact hub address port).every h })

  unheard : ((address : ℕ) → Hearer hub address port → ⊥) → is_reached hub port ≡ false
  unheard none = go (is_reached hub port) refl
    where
      go : (b : Bool) → is_reached hub port ≡ b → b ≡ false
      go false q = refl
      go true q =
          let a = (reached_exact hub port).only q in
          absurd (none a.address ((address_reaches_exact hub a.address port).only a.reached))

pub no_address_exact : NoAddressExact
unfolding has_no_address
no_address_exact hub port =
    record {
      only = λ e.
          (let b = both (is_forwarded hub port) (not (is_reached hub port)) e in
          let unreached : is_reached hub port ≡ false = not-true (is_reached hub port) b.1 in
          record {
            forwarded = b.0;
            unheard = λ address h. (let r = heard hub port address h in zero_not_one (cc));
          });
      every = λ n. rw (n.forwarded, unheard hub port n.unheard);
    }
