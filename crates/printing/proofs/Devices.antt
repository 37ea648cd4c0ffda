-- The text of the devices that a write reaches, one device after the other.
-- Assumes nothing.
use Rattle.std.proofs.Common.{Some, None}
use Rattle.std.specs.List.{slice_get}
use Rattle.std.proofs.lemmas.List.{take_more}
use Rattle.std.proofs.lemmas.Option.{slice_get_within, slice_get_cases, get_or_from_slice_get}
use mathlib.Core.Path.{◌≡◌, refl, ap, sym, ◌∙◌}
use mathlib.Core.List.{List, [], ◌∷◌, ◌++◌, append_assoc, append-nil}
use mathlib.Core.Logic.{inl, inr}
use Prim.Native.Nat.{ℕ, ◌+◌, ◌≤◌}
use native.Mathlib.Omega.{arith}
use lib.ListN.{length, take}
use lib.Seq.{take_all}
use Rattle.laws.proofs.Absurd.{zero_not_one}
use Rattle.translation.specs.declared.PortDevice.{PortDevice}
use Rattle.translation.specs.declared.Devices.{Devices}
use Rattle.translation.specs.declared.Devices.TheVariants.{One, Two, Three, Four}
use Rattle.translation.specs.Translation.{devices_of}
use Rattle.printing.specs.PrintedLines.{device_text, devices_text}

text_append : (a b : List PortDevice) → devices_text (a ++ b) ≡ devices_text a ++ devices_text b
unfolding devices_text
text_append [] b = refl
text_append (d ∷ a) b = ap (λ (t : List ℕ). device_text d ++ t) (text_append a b)
    ∙ sym (append_assoc (device_text d) (devices_text a) (devices_text b))

pub text_more : (devices : List PortDevice) (k : ℕ) (d : PortDevice) → slice_get devices k ≡ Some d
    → devices_text (take (k + 1) devices) ≡ devices_text (take k devices) ++ device_text d
unfolding devices_text
text_more devices k d e =
    rw (
      take_more devices k d (slice_get_within devices k d e),
      get_or_from_slice_get devices k d d e,
      text_append (take k devices) (d ∷ []),
      append-nil (device_text d),
    )

-- there is no device at place k or after it
past : (devices : List PortDevice) (k : ℕ) → slice_get devices k ≡ None → length devices ≤ k
past devices k e =
    elim (slice_get_cases devices k).1 [
      | inl found ↦ zero_not_one (cc (found.2))
      | inr above ↦ above.0
    ]

pub none_more : (devices : List PortDevice) (k : ℕ) → slice_get devices k ≡ None
    → take (k + 1) devices ≡ take k devices
none_more devices k e =
    let h = past devices k e in
    take_all (k + 1) devices (omega arith) ∙ sym (take_all k devices h)

pub all_devices : (devices : Devices) (k : ℕ) → 4 ≤ k → take k (devices_of devices) ≡ devices_of devices
all_devices devices k h = take_all k (devices_of devices) (few devices)
  where
    few : (devices : Devices) → length (devices_of devices) ≤ k
    few (One a) = omega arith
    few (Two a b) = omega arith
    few (Three a b c) = omega arith
    few (Four a b c d) = omega arith
