-- `origins::start` meets its contract: no register has an origin, and an array's length and bytes are its type's.
use Rattle.std.proofs.Common.{ℕ, get_or, refl, w8, Fits, rules}
use Rattle.origins.specs.KeptOrigins.{start_with}
use Rattle.origins.proofs.start.Goals as goal

pub returns : goal.returns
unfolding start_with
returns c =
    let file = c.args.registers in
    let shared : (i : ℕ) → Fits w8 (get_or file.shared i 0) = λ i. search rules in
    let pages : (i : ℕ) → Fits w8 (get_or file.pages i 0) = λ i. search rules in (
      refl,
      record {
        shared_count = search rules;
        page_count = search rules;
        shared_bytes = λ i. (shared i).fits;
        page_bytes = λ i. (pages i).fits;
      },
    )
