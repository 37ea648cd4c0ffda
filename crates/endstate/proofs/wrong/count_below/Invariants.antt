-- `endstate::wrong::count_below` meets its contract. The loop's invariant: those so far are counted.
use Rattle.std.proofs.Common.{◌≡◌, ℕ, ◌<◌, ◌≤◌, Bool}
use Rattle.endstate.specs.contracts.wrong.count_below.F-Fn.{words}
use Rattle.endstate.specs.Wrong.{count_below}
use Rattle.endstate.proofs.wrong.count_below.Given as goal

abbrev pub invariant-loop-k : goal.invariant-loop-k
invariant-loop-k g l = record {
  counted : (test : ℕ → Bool)
      → ((k : ℕ) (answer : Bool) → k < l.fn.end → (words g.row.F g.F.Fn).post l.fn.passes k answer → answer ≡ test k)
      → l.count ≡ count_below test l.k;
  few : l.count ≤ l.k;
}
