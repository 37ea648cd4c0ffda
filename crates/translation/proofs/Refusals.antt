-- By which numbers the two questions are refused.
-- Assumes nothing.
use Rattle.std.proofs.Common.{Option, Some, None}
use mathlib.Core.Path.{◌≡◌}
use mathlib.Core.List.{List, [], ◌∷◌}
use mathlib.Core.Logic.{◌⊎◌, inl, inr}
use mathlib.Core.Option.{Option as Detail}
use Prim.Native.Nat.{ℕ}
use Rattle.laws.specs.Reply.{refused_with, given}
use Rattle.laws.proofs.Absurd.{zero_not_one}
use Rattle.registers.specs.RegisterFiles.{read_port}
use Rattle.hub.specs.declared.Hub.{Hub}
use Rattle.translation.specs.declared.PortDevice.{PortDevice}
use Rattle.translation.specs.Translation.{Addressee, OutOfRange, TheHub, Ports}
use Rattle.translation.specs.Translation.{on_port, on_ports, receivers, Addressed, addressee_of, answered_by, who_hears_write, answered, who_answers_read}

module _ (hub : Hub) (address : ℕ) {number : ℕ} {detail : Detail ℕ} where
  pub write_refused : who_hears_write hub address ≡ refused_with number detail → number ≡ 2
  unfolding who_hears_write
  write_refused e = go (addressee_of hub address) _ e
    where
      go : (a : Addressee) (who : Addressed (List PortDevice)) → answered_by a (given who) ≡ refused_with number detail → number ≡ 2
      go OutOfRange who q = cc
      go TheHub who q = zero_not_one (cc)
      go Ports who q = zero_not_one (cc)

  pub read_refused : who_answers_read hub address ≡ refused_with number detail → (number ≡ 2) ⊎ (number ≡ 9)
  unfolding who_answers_read
  read_refused e =
      let pages = hub.registers.pages in
      go (addressee_of hub address) (on_port pages (read_port hub.registers) address) (receivers (on_ports pages address)) e
    where
      go : (a : Addressee) (own : Option PortDevice) (ds : List PortDevice) → answered_by a (answered own ds) ≡ refused_with number detail
          → (number ≡ 2) ⊎ (number ≡ 9)
      go OutOfRange own ds q = inl cc
      go TheHub own ds q = zero_not_one (cc)
      go Ports (Some d) ds q = zero_not_one (cc)
      go Ports None [] q = zero_not_one (cc)
      go Ports None (d ∷ []) q = zero_not_one (cc)
      go Ports None (d ∷ f ∷ ds) q = inr cc
