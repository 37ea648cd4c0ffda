-- The definitions of specs/Channels.antt by their cases.
-- Assumes nothing.
use Rattle.std.specs.Prelude.{Option}
use mathlib.Core.Path.{◌≡◌, refl, ◌∙◌}
use mathlib.Core.Bool.{Bool, true, false}
use mathlib.Core.List.{List, []}
use Prim.Native.Nat.{ℕ, zero, suc, ◌+◌, ◌-◌, ◌≤◌, ◌<◌}
use native.Mathlib.Numerals.{add-one}
use native.Mathlib.Omega.{arith}
use lib.Dec.{lit<}
use lib.ListN.{length}
use Rattle.laws.specs.Bits.{bit}
use Rattle.formats.specs.declared.Format.{Format}
use Rattle.registers.specs.declared.RegisterFile.{RegisterFile}
use Rattle.hub.specs.declared.Hub.{Hub}
use Rattle.ports.specs.PortMasks.{port_mask}
use Rattle.ports.proofs.PortMasks.{mask_bits}
use Rattle.origins.specs.declared.RegistersWithOrigins.{RegistersWithOrigins}
use Rattle.origins.specs.Origins.{port_register}
use Rattle.origins.specs.KeptOrigins.{kept_number}
use Rattle.clashes.specs.Channels.{leaves_on}
use Rattle.endstate.specs.declared.findings.Clash.{Clash}
use Rattle.endstate.specs.declared.gathering.Gathered.{Gathered}
use Rattle.endstate.specs.Findings.{clash_of}
use Rattle.endstate.specs.Gathering.{gathered_of, clash_by}
use Rattle.endstate.specs.Channels.{if_in, port_numbers, identifier_register, sync_forwarding, asks_for_lines}
use Rattle.endstate.specs.Channels.{same_channel}
use Rattle.endstate.proofs.GatheringLaws.{clash_by_lem}

pub no_output : (file : RegisterFile) (output : ℕ) → 1 < output → sync_forwarding file output ≡ 0
no_output file zero h = absurd (omega arith)
no_output file (suc zero) h = absurd (omega arith)
no_output file (suc (suc output)) h = refl

-- what one port adds to what is gathered
abbrev pub AddsPort : (ℕ → Bool) → (ℕ → ℕ) → ℕ → Gathered → Gathered → Type 0
AddsPort holds number port before after =
    (numbers : List ℕ) → before ≡ gathered_of numbers
    → after ≡ gathered_of (if_in (holds port) (number port) numbers)

-- one port more adds at most one number
few_more : (is-in : Bool) (number most : ℕ) (numbers : List ℕ) → length numbers ≤ most
    → length (if_in is-in number numbers) ≤ most + 1
few_more true number most numbers h = omega arith
few_more false number most numbers h = omega arith

module _ (holds : ℕ → Bool) (number : ℕ → ℕ) where
  -- the numbers of the last k ports
  unfoldable pub last_ports : ℕ → List ℕ
  last_ports zero = []
  last_ports (suc k) = if_in (holds (3 - k)) (number (3 - k)) (last_ports k)

  pub four_ports : (end : ℕ) → 4 ≤ end → end ≤ 4 → last_ports end ≡ port_numbers holds number
  unfolding port_numbers last_ports
  four_ports end low high = let e : end ≡ 4 = omega arith in rw e

  pub one_port : (k : ℕ) {before after : Gathered} → AddsPort holds number (3 - k) before after
      → before ≡ gathered_of (last_ports k) → after ≡ gathered_of (last_ports (k + 1))
  unfolding last_ports
  one_port k adds e = rw (add-one k) (adds (last_ports k) e)

  pub four_at_most : length (port_numbers holds number) ≤ 4
  unfolding port_numbers
  four_at_most =
      few_more (holds 0) (number 0) 3 _
      (few_more (holds 1) (number 1) 2 _
      (few_more (holds 2) (number 2) 1 _ (few_more (holds 3) (number 3) 0 [] (omega arith))))

  same_numbers : (also : ℕ → Bool) → ((port : ℕ) → port < 4 → also port ≡ holds port)
      → port_numbers also number ≡ port_numbers holds number
  unfolding port_numbers
  same_numbers also e = rw (e 0 (lit< tt), e 1 (lit< tt), e 2 (lit< tt), e 3 (lit< tt))

module _ (hub : Hub) (state : RegistersWithOrigins) (format : Format) (output channel : ℕ) where
  pub channel_by : {mask offset : ℕ} {asked : Bool} {gathered : Gathered} {clash : Option Clash}
      → mask ≡ port_mask (leaves_on hub format output channel) → offset ≡ identifier_register format
      → gathered
      ≡ gathered_of (port_numbers (λ port. bit port mask) (λ port. kept_number state (port_register port offset)))
      → asked ≡ asks_for_lines hub.registers output → clash ≡ clash_by mask gathered asked
      → clash ≡ clash_of (same_channel hub state format output channel)
  unfolding same_channel
  channel_by {mask} {offset} {asked} m o g a f =
      let holds = leaves_on hub format output channel in
      let number : ℕ → ℕ = λ port. kept_number state (port_register port offset) in
      let numbers = same_numbers holds number (λ port. bit port mask) (λ port h. rw m ((mask_bits holds).bits port h)) in
      f ∙ rw g (clash_by_lem mask (port_numbers (λ port. bit port mask) number) asked ∙ rw (numbers, m, o, a))
