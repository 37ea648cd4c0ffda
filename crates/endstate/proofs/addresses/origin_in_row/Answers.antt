-- `endstate::addresses::origin_in_row` meets its contract.
use mathlib.Core.Path.{◌≡◌, sym}
use Prim.Native.Nat.{◌+◌, ◌<◌}
use native.Mathlib.Omega.{arith}
use lib.ListN.{length}
use Rattle.hub.proofs.Hubs.{length_of_mapped}
use Rattle.endstate.proofs.AddressLaws.{past_the_end}
use borrow.Author.Rules.{rules}
use Rattle.endstate.proofs.addresses.origin_in_row.Goals as goal

pub returns-then-first-number : goal.returns-then-first-number
returns-then-first-number c =
    let a = c.args in
    let size : length a.state.origins ≡ 256 = search (rules, length_of_mapped) in
    let high : 255 < a.first + a.number = omega arith in
    sym (past_the_end a.state a.port (a.first + a.number) size high)
