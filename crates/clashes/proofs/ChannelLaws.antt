-- The definitions of specs/Channels.antt by their cases, and the laws of it.
-- Assumes nothing.
use mathlib.Core.Path.{◌≡◌, refl, sym}
use mathlib.Core.Bool.{Bool, true, false, cond}
use Prim.Native.Nat.{ℕ, ◌*◌, ◌+◌, ◌<◌}
use native.Mathlib.Omega.{arith}
use borrow.Author.Tests.{eq-eqb, eqb-true}
use lib.Dec.{eqb, ltb}
use Rattle.laws.specs.Bits.{digit, bit}
use Rattle.laws.specs.Elements.{AreBytes}
use Rattle.laws.specs.Reply.{Reply, refused_with, refused, given}
use Rattle.laws.proofs.Absurd.{zero_not_one}
use Rattle.laws.proofs.Bools.{both}
use Rattle.formats.specs.declared.Format.{Format}
use Rattle.formats.specs.declared.Format.TheVariants.{Raw10, Raw12}
use Rattle.registers.specs.declared.RegisterFile.{RegisterFile}
use Rattle.registers.specs.RegisterMap.{FWD_CTL1, RAW10_ID, RAW12_ID}
use Rattle.registers.specs.RegisterFiles.{shared_at, page_at}
use Rattle.hub.specs.declared.Hub.{Hub}
use Rattle.hub.specs.Routes.{PortRoute, off, output, virtual_channel, port_route, route_of}
use Rattle.hub.proofs.Routes.{route_refused}
use Rattle.clashes.specs.Channels.{forwards, is_forwarded, channel_of, leaves_by, leaves_on}
use Rattle.clashes.specs.Channels.{RouteTo, LeavesOnExact, ChannelSharedExact, OnlyThesePorts, OnlyTheseChannels}
use Rattle.clashes.proofs.TwoPorts.{two_only, two_every}

module _ (hub : Hub) (port : ℕ) {reply : Reply PortRoute} (e : reply ≡ route_of hub.registers port) where
  pub forwarded_by : forwards reply ≡ is_forwarded hub port
  unfolding is_forwarded
  forwarded_by = rw e

pub only_these_ports : OnlyThesePorts
only_these_ports hub port h = sym (forwarded_by hub port (sym (route_refused hub.registers port h)))

pub leaves_on_exact : LeavesOnExact
unfolding leaves_on
leaves_on_exact hub format out channel port =
    record {
      only = λ e. there (route_of hub.registers port) refl e;
      every = λ r. rw (r.route, r.vc, eq-eqb out out refl, eq-eqb channel channel refl);
    }
  where
    there : (reply : Reply PortRoute) → route_of hub.registers port ≡ reply → leaves_by format out channel reply ≡ true
        → RouteTo hub format out channel port
    there (refused_with number detail) r e = zero_not_one (cc)
    there (given off) r e = zero_not_one (cc)
    there (given (output csi raw10 raw12)) r e =
        let b = both (eqb csi out) (eqb (channel_of format raw10 raw12) channel) e in
        let same : csi ≡ out = eqb-true csi out b.0 in
        record {
          raw10 = raw10;
          raw12 = raw12;
          route = rw same at r;
          vc = eqb-true (channel_of format raw10 raw12) channel b.1;
        }

pub channel_shared_exact : ChannelSharedExact
channel_shared_exact hub format out channel =
    record {
      only = λ e.
          (let t = two_only (leaves_on hub format out channel) e in
          record {
            low = t.low;
            high = t.high;
            rising = t.rising;
            within = t.within;
            first = (leaves_on_exact hub format out channel t.low).only t.first;
            second = (leaves_on_exact hub format out channel t.high).only t.second;
          });
      every = λ t.
          two_every (leaves_on hub format out channel) t.low t.high t.rising t.within
          ((leaves_on_exact hub format out channel t.low).every t.first)
          ((leaves_on_exact hub format out channel t.high).every t.second);
    }

-- the parts of a route that is to an output
same_parts : (above is-off : Bool) (x y z : ℕ) {out raw10 raw12 : ℕ}
    → cond above (refused 1) (given (cond is-off off (output x y z))) ≡ given (output out raw10 raw12)
    → (x ≡ out) × (y ≡ raw10) × (z ≡ raw12)
same_parts true is-off x y z e = zero_not_one (cc)
same_parts false true x y z e = zero_not_one (cc)
same_parts false false x y z e = (cc, cc, cc)

module _ (file : RegisterFile) (port : ℕ) {out raw10 raw12 : ℕ}
    (e : route_of file port ≡ given (output out raw10 raw12)) where
  parts : (digit port (shared_at file FWD_CTL1) ≡ out)
      × (virtual_channel (page_at file.pages port RAW10_ID) ≡ raw10)
      × (virtual_channel (page_at file.pages port RAW12_ID) ≡ raw12)
  unfolding route_of port_route
  parts = same_parts (ltb 3 port) (bit (4 + port) (shared_at file FWD_CTL1)) _ _ _ e

  output_within : out < 2
  output_within = omega (arith, parts.0)

  channel_within : AreBytes file.pages → (format : Format) → channel_of format raw10 raw12 < 4
  channel_within bytes Raw10 = omega (arith, parts.1, bytes (256 * port + RAW10_ID))
  channel_within bytes Raw12 = omega (arith, parts.2, bytes (256 * port + RAW12_ID))

pub only_these_channels : OnlyTheseChannels
only_these_channels hub format out channel e =
    let t = (channel_shared_exact hub format out channel).only e in
    let r = t.first in (
      output_within hub.registers t.low r.route,
      λ bytes. (let h = channel_within hub.registers t.low r.route bytes format in rw r.vc at h),
    )
