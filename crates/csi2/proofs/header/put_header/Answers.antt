-- `csi2::header::put_header` meets its contract: four stores, one after the other.
use mathlib.Core.Path.{ap, ◌∙◌}
use mathlib.Core.List.{[], ◌∷◌}
use Prim.Native.Nat.{ℕ, ◌/◌, ◌%◌}
use Rattle.laws.specs.Buffers.{written}
use Rattle.laws.proofs.Buffers.{written_sets}
use Rattle.csi2.specs.Packets.{header_bytes}
use Rattle.csi2.proofs.header.put_header.Goals as goal

pub returns : goal.returns
unfolding header_bytes
returns c =
    let x = c.args in
    written_sets x.part.now 0 (x.identifier ∷ x.n % 256 ∷ x.n / 256 ∷ c.check_byte.result ∷ []) c.requires
    ∙ ap (λ (b : ℕ). written x.part.now 0 (x.identifier ∷ x.n % 256 ∷ x.n / 256 ∷ b ∷ [])) c.check_byte.ensures
