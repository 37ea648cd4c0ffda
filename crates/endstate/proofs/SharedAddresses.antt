-- What `same-address` finds: two ports that are reached, and the origins of the aliases.
-- Assumes nothing.
use mathlib.Core.Path.{◌≡◌, refl, sym, ap, ◌∙◌}
use mathlib.Core.Bool.{false}
use mathlib.Core.List.Memᴰ
use mathlib.Core.List.{List, [], ◌∷◌, Memᴰ}
use mathlib.Core.Logic.{⊎_elim}
use Prim.Native.Nat.{ℕ}
use Rattle.hub.specs.declared.Hub.{Hub}
use Rattle.translation.specs.declared.PortDevice.{PortDevice}
use Rattle.translation.specs.Translation.{who_hears_write}
use Rattle.ports.specs.PortMasks.{port_mask}
use Rattle.origins.specs.declared.RegistersWithOrigins.{RegistersWithOrigins}
use Rattle.clashes.specs.Addresses.{address_reaches, address_shared}
use Rattle.clashes.proofs.AddressLaws.{address_shared_exact}
use Rattle.endstate.specs.LineRows.{RowHas}
use Rattle.endstate.specs.Findings.{is_found}
use Rattle.endstate.specs.Addresses.{alias_origin, alias_origins, hearers, same_address}
use Rattle.endstate.specs.Addresses.{AliasOrigin, SameAddressExact}
use Rattle.endstate.proofs.FindingLaws.{every_sharing, shared_held}
use Rattle.endstate.proofs.AddressLaws.{few_aliases}

module _ (state : RegistersWithOrigins) (number : ℕ) where
  aliases_only : (devices : List PortDevice) → Memᴰ number (alias_origins state devices)
      → AliasOrigin state devices number
  unfolding alias_origins
  aliases_only [] m = absurd (elim m [ ])
  aliases_only (device ∷ devices) m =
      ⊎_elim (λ e. record { device = device; member = Memᴰ.head refl; origin = sym e })
      (λ t.
      (let a = aliases_only devices t in
      record { device = a.device; member = Memᴰ.tail a.member; origin = a.origin }))
      (Memᴰ.cases_cons m)

  aliases_every : (devices : List PortDevice) (device : PortDevice) → Memᴰ device devices
      → alias_origin state device ≡ number → Memᴰ number (alias_origins state devices)
  unfolding alias_origins
  aliases_every [] device m e = elim m [ ]
  aliases_every (first ∷ devices) device (Memᴰ.head q) e =
      Memᴰ.head (sym e ∙ ap (alias_origin state) q)
  aliases_every (first ∷ devices) device (Memᴰ.tail m) e = Memᴰ.tail (aliases_every devices device m e)

module _ (hub : Hub) (state : RegistersWithOrigins) (address : ℕ) where
  found_is : is_found (same_address hub state address) ≡ address_shared hub address
  unfolding same_address
  found_is =
      (every_sharing (port_mask (address_reaches hub address))
      (alias_origins state (hearers (who_hears_write hub address))) false
      ).found

  row_held : RowHas (same_address hub state address).lines
  unfolding same_address
  row_held =
      shared_held (port_mask (address_reaches hub address))
      (alias_origins state (hearers (who_hears_write hub address))) false
      (few_aliases hub address state)

pub same_address_exact : SameAddressExact
same_address_exact hub state address =
    record {
      only = λ e. (address_shared_exact hub address).only (sym (found_is hub state address) ∙ e);
      every = λ t. found_is hub state address ∙ (address_shared_exact hub address).every t;
      origin_only = λ number m. aliases_only state number (hearers (who_hears_write hub address)) m;
      origin_every = λ number a.
          aliases_every state number (hearers (who_hears_write hub address)) a.device a.member a.origin;
      held = row_held hub state address;
    }
