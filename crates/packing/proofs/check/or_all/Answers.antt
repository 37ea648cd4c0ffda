-- `packing::check::or_all` meets its contract: gathered from the first pixel on, the bits are those of the definition.
use mathlib.Core.Path.{◌≡◌, ◌∙◌}
use Rattle.std.proofs.Common.{rules}
use Rattle.std.specs.List.{fold}
use lib.Bits.{bit_or}
use Rattle.packing.proofs.CheckLaws.{or_folded}
use Rattle.packing.proofs.check.or_all.Goals as goal

pub returns : goal.returns
returns c = let folded : c.fold.result ≡ fold bit_or 0 c.args.pixels.now = search rules in folded ∙ or_folded _
