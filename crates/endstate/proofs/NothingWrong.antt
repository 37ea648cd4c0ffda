-- The count is 0 exactly where nothing is wrong: the law of specs/Wrong.antt.
-- Assumes nothing.
use Rattle.std.specs.Prelude.{Option, None, Some}
use mathlib.Core.Path.{◌≡◌, refl, ap}
use mathlib.Core.Bool.{Bool, true, false, cond}
use mathlib.Core.Logic.{◌⊎◌, inl, inr}
use Prim.Native.Nat.{ℕ, zero, suc, ◌+◌, ◌<◌}
use native.Mathlib.Nat.{eq-or-lt_of_le, le_of_suc-le-suc}
use native.Mathlib.Omega.{arith}
use borrow.Author.Tests.{ltb-true, ltb-false}
use lib.Dec.{ltb}
use Rattle.laws.proofs.Absurd.{zero_not_one}
use Rattle.formats.specs.declared.Format.{Format}
use Rattle.formats.specs.declared.Format.TheVariants.{Raw10, Raw12}
use Rattle.hub.specs.declared.Hub.{Hub}
use Rattle.origins.specs.declared.RegistersWithOrigins.{RegistersWithOrigins}
use Rattle.origins.specs.Origins.{FileOfBytes}
use Rattle.clashes.proofs.ChannelLaws.{channel_shared_exact, only_these_ports, only_these_channels}
use Rattle.clashes.proofs.AddressLaws.{address_shared_exact, only_these_addresses}
use Rattle.endstate.specs.declared.findings.Grade.{Grade}
use Rattle.endstate.specs.declared.findings.Grade.TheVariants.{Meant, Wrong}
use Rattle.endstate.specs.Findings.{is_graded}
use Rattle.endstate.specs.Channels.{same_channel}
use Rattle.endstate.specs.Addresses.{same_address}
use Rattle.endstate.specs.Unset.{not_set_up, NotSetUp}
use Rattle.endstate.specs.Wrong.{is_wrong, count_below, wrong_channel, wrong_channels, wrong_address, wrong_count}
use Rattle.endstate.specs.Wrong.{NothingWrong, NothingWrongExact}
use Rattle.endstate.proofs.SharedChannels.{same_channel_exact}
use Rattle.endstate.proofs.SharedAddresses.{same_address_exact}
use Rattle.endstate.proofs.UnsetLaws.{not_set_up_exact}

-- none below n exactly where the test fails of each
module _ (test : ℕ → Bool) where
  none_only : (n : ℕ) → count_below test n ≡ 0 → (k : ℕ) → k < n → test k ≡ false
  unfolding count_below
  none_only zero e k h = absurd (omega arith)
  none_only (suc n) e k h = go (test n) refl e (eq-or-lt_of_le (le_of_suc-le-suc h)) (none_only n)
    where
      go : (b : Bool) → test n ≡ b → cond b (count_below test n + 1) (count_below test n) ≡ 0
          → (k ≡ n) ⊎ (k < n) → (count_below test n ≡ 0 → (k : ℕ) → k < n → test k ≡ false) → test k ≡ false
      go true t q s ih = absurd (omega arith)
      go false t q (inl s) ih = rw s t
      go false t q (inr l) ih = ih q k l

  none_every : (n : ℕ) → ((k : ℕ) → k < n → test k ≡ false) → count_below test n ≡ 0
  unfolding count_below
  none_every zero h = refl
  none_every (suc n) h = rw (h n (omega arith)) (none_every n (λ k (l : k < n). h k (omega arith)))

not_wrong : (grade : Option Grade) → (grade ≡ Some Wrong → ⊥) → is_wrong grade ≡ false
not_wrong None n = refl
not_wrong (Some Meant) n = refl
not_wrong (Some Wrong) n = absurd (n refl)

-- where something is wrong, it is looked at
module _ (hub : Hub) (state : RegistersWithOrigins) where
  channel_looked : FileOfBytes hub.registers → (format : Format) (output channel : ℕ)
      → (same_channel hub state format output channel).grade ≡ Some Wrong → (output < 2) × (channel < 4)
  channel_looked bytes format output channel e =
      let two = (same_channel_exact hub state format output channel).only (ap is_graded e) in
      let looked = only_these_channels hub format output channel
      ((channel_shared_exact hub format output channel).every two) in
      (looked.0, looked.1 bytes.page_bytes)

  address_looked : (address : ℕ) → (same_address hub state address).grade ≡ Some Wrong → address < 128
  address_looked address e = go (ltb 127 address) refl
    where
      go : (b : Bool) → ltb 127 address ≡ b → address < 128
      go true q =
          let two = (same_address_exact hub state address).only (ap is_graded e) in
          let shared = (address_shared_exact hub address).every two in
          let unshared = (only_these_addresses hub address (ltb-true 127 address q)).unshared in
          zero_not_one (cc)
      go false q = omega (arith, ltb-false 127 address q)

  port_looked : (port : ℕ) → NotSetUp hub state port → port < 4
  port_looked port n = go (ltb 3 port) refl
    where
      go : (b : Bool) → ltb 3 port ≡ b → port < 4
      go true q =
          let forwarded = n.forwarded in
          let unforwarded = only_these_ports hub port (ltb-true 3 port q) in
          zero_not_one (cc)
      go false q = omega (arith, ltb-false 3 port q)

module _ (hub : Hub) (state : RegistersWithOrigins) (none : wrong_count hub state ≡ 0) where
  no_channels : (format : Format) (output : ℕ) → output < 2 → wrong_channels hub state format output ≡ 0
  unfolding wrong_count
  no_channels Raw10 zero h = omega arith
  no_channels Raw10 (suc zero) h = omega arith
  no_channels Raw10 (suc (suc output)) h = absurd (omega arith)
  no_channels Raw12 zero h = omega arith
  no_channels Raw12 (suc zero) h = omega arith
  no_channels Raw12 (suc (suc output)) h = absurd (omega arith)

  no_addresses : count_below (wrong_address hub state) 128 ≡ 0
  unfolding wrong_count
  no_addresses = omega arith

  no_ports : count_below (not_set_up hub state) 4 ≡ 0
  unfolding wrong_count
  no_ports = omega arith

  nothing_wrong : FileOfBytes hub.registers → NothingWrong hub state
  nothing_wrong bytes =
      record {
        channels = λ format output channel e.
            (let l = channel_looked hub state bytes format output channel e in
            let right = none_only (wrong_channel hub state format output) 4 (no_channels format output l.0) channel
            l.1 in
            let wrong = ap is_wrong e in
            zero_not_one (cc));
        addresses = λ address e.
            (let right = none_only (wrong_address hub state) 128 no_addresses address
            (address_looked hub state address e) in
            let wrong = ap is_wrong e in
            zero_not_one (cc));
        ports = λ port n.
            (let right = none_only (not_set_up hub state) 4 no_ports port (port_looked hub state port n) in
            let wrong = (not_set_up_exact hub state port).every n in
            zero_not_one (cc));
      }

module _ (hub : Hub) (state : RegistersWithOrigins) (nothing : NothingWrong hub state) where
  right_channels : (format : Format) (output : ℕ) → wrong_channels hub state format output ≡ 0
  right_channels format output =
      none_every (wrong_channel hub state format output) 4
      (λ channel h.
      not_wrong (same_channel hub state format output channel).grade (nothing.channels format output channel))

  right_addresses : count_below (wrong_address hub state) 128 ≡ 0
  right_addresses =
      none_every (wrong_address hub state) 128
      (λ address h. not_wrong (same_address hub state address).grade (nothing.addresses address))

  right_ports : count_below (not_set_up hub state) 4 ≡ 0
  right_ports = none_every (not_set_up hub state) 4 (λ port h. go port (not_set_up hub state port) refl)
    where
      go : (port : ℕ) (b : Bool) → not_set_up hub state port ≡ b → b ≡ false
      go port false q = refl
      go port true q = absurd (nothing.ports port ((not_set_up_exact hub state port).only q))

  no_count : wrong_count hub state ≡ 0
  unfolding wrong_count
  no_count =
      rw (
        right_channels Raw10 0,
        right_channels Raw10 1,
        right_channels Raw12 0,
        right_channels Raw12 1,
        right_addresses,
        right_ports,
      )

pub nothing_wrong_exact : NothingWrongExact
nothing_wrong_exact hub bytes state =
    record { only = λ e. nothing_wrong hub state e bytes; every = λ n. no_count hub state n }
