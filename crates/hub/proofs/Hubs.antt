-- The hub: its creation by its cases, its arrays' lengths, and that a burst changes the registers alone.
-- Assumes nothing.
use mathlib.Core.Path.{◌≡◌, refl, sym, ap, ◌∙◌}
use mathlib.Core.Bool.{true, false}
use mathlib.Core.List.{List, map}
use Prim.Native.Nat.{ℕ}
use lib.ListN.{length, length-map}
use Rattle.laws.specs.Reply.{refused, given}
use Rattle.registers.specs.declared.RegisterFile.{RegisterFile}
use Rattle.registers.specs.declared.PageAccess.TheVariants.{Selection}
use Rattle.registers.specs.Bursts.{burst_writes, write_each}
use Rattle.registers.specs.declared.power_up.PowerUp.{PowerUp}
use Rattle.registers.proofs.PowerUps.{power_up_lengths}
use Rattle.registers.proofs.Bursts.{burst_writes_lem}
use Rattle.hub.specs.declared.Hub.{Hub}
use Rattle.hub.specs.Hubs.{ArrayLengths, hub_with, hub_at, is_hub_address, creation_with, with_registers, hub_burst}

module _ (start : RegisterFile) (address : ℕ) where
  pub created : is_hub_address address ≡ true → creation_with start address ≡ given (hub_with start address)
  unfolding creation_with
  created h = rw h

  pub not_created : is_hub_address address ≡ false → creation_with start address ≡ refused 2
  unfolding creation_with
  not_created h = rw h

  pub start_registers : (hub_with start address).registers ≡ start
  unfolding hub_with
  start_registers = refl

pub start_lengths : (start : PowerUp) (address : ℕ) → ArrayLengths (hub_at start address)
unfolding hub_with
start_lengths start address =
    let lengths = power_up_lengths start in
    record { shared = lengths.0; pages = lengths.1; frames = refl }

-- What is known of a field that is an array of structs is the length of the list of their machine values. `search`
-- finds it with this law, wherever the field stands and whatever the structs hold.
pub length_of_mapped : {A B : Type 0} (f : A → B) (l : List A) (n : ℕ) → length (map f l) ≡ n → length l ≡ n
length_of_mapped f l n e = sym (length-map l f) ∙ e

-- a burst is its writes of one value, to the registers alone
pub burst_registers : (hub : Hub) (offset : ℕ) (values : List ℕ)
    → hub_burst hub offset values ≡ with_registers hub (write_each Selection hub.registers (burst_writes offset values))
unfolding hub_burst
burst_registers hub offset values = ap (with_registers hub) (burst_writes_lem Selection hub.registers offset values)
