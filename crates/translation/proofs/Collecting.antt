-- The source collects the ports' answers one after the other.
-- Assumes nothing.
use Rattle.std.proofs.Common.{Option, Some, None}
use mathlib.Core.Path.{◌≡◌, refl, ap, ◌∙◌}
use mathlib.Core.List.{List, [], ◌∷◌, ◌++◌}
use Prim.Native.Nat.{ℕ, zero, suc, ◌+◌, ◌≤◌, ◌<◌}
use native.Mathlib.Omega.{arith}
use lib.ListN.{length, take, length-append}
use lib.Seq.{take_all}
use Rattle.translation.specs.declared.PortDevice.{PortDevice}
use Rattle.translation.specs.declared.Devices.{Devices}
use Rattle.translation.specs.declared.Devices.TheVariants.{One, Two, Three, Four}
use Rattle.translation.specs.Translation.{on_port, on_ports, receivers}
use Rattle.translation.specs.Collecting.{collected}

receivers_append : (a b : List (Option PortDevice)) → receivers (a ++ b) ≡ receivers a ++ receivers b
unfolding receivers
receivers_append [] b = refl
receivers_append (None ∷ a) b = receivers_append a b
receivers_append (Some d ∷ a) b = ap (λ (ds : List PortDevice). d ∷ ds) (receivers_append a b)

pub length-receivers : (answers : List (Option PortDevice)) → length (receivers answers) ≤ length answers
unfolding receivers
length-receivers [] = omega arith
length-receivers (None ∷ answers) = let h = length-receivers answers in omega arith
length-receivers (Some d ∷ answers) = let h = length-receivers answers in omega arith

pub collected_none : (so_far : Option Devices) → collected so_far ≡ take 4 (collected so_far ++ receivers (None ∷ []))
unfolding receivers
collected_none None = refl
collected_none (Some (One a)) = refl
collected_none (Some (Two a b)) = refl
collected_none (Some (Three a b c)) = refl
collected_none (Some (Four a b c d)) = refl

-- one more answer; there are four at most
pub collected_next : (before : List (Option PortDevice)) (a : Option PortDevice) {so_far next : List PortDevice} → length before ≤ 3
    → so_far ≡ receivers before → next ≡ take 4 (so_far ++ receivers (a ∷ [])) → next ≡ receivers (before ++ (a ∷ []))
collected_next before a h e f =
    let all = before ++ (a ∷ []) in
    let few : length (receivers all) ≤ 4 = omega (arith, length-receivers all, length-append before (a ∷ [])) in
    f ∙ rw (e, ← receivers_append before (a ∷ [])) (take_all 4 (receivers all) few)

-- one port more
pub one_port_more : (pages : List ℕ) (address port : ℕ) → port < 4
    → take (port + 1) (on_ports pages address) ≡ take port (on_ports pages address) ++ (on_port pages port address ∷ [])
one_port_more pages address zero h = refl
one_port_more pages address (suc zero) h = refl
one_port_more pages address (suc (suc zero)) h = refl
one_port_more pages address (suc (suc (suc zero))) h = refl
one_port_more pages address (suc (suc (suc (suc port)))) h = absurd (omega arith)
