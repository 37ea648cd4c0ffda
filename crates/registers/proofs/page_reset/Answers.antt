-- `registers::page_reset` meets its contract: of the offsets RAW10_ID and RAW12_ID alone have the port in their reset
-- value.
use mathlib.Core.Path.{◌≡◌, sym, ◌∙◌}
use mathlib.Core.List.{List}
use Prim.Native.Nat.{ℕ, ◌+◌, ◌*◌, ◌/◌, ◌%◌, ◌<◌, ◌≤◌}
use lib.ListN.{get_or}
use Rattle.laws.specs.Tables.{tabulate}
use Rattle.laws.proofs.Tables.{tabulate-at}
use Rattle.registers.specs.RegisterMap.{reset_of, RAW10_ID, RAW12_ID}
use Rattle.registers.specs.RegisterFiles.{page_reset_at}
use Rattle.registers.proofs.RegisterMap.{port_bits, reset_byte_lem, reset_by_port_lem}
use native.Mathlib.Omega.{arith}
use native.Mathlib.Nat.{add-zero}
use borrow.Author.Tests.{le-leb, lt-leb}
use Rattle.registers.proofs.page_reset.Goals as goal

-- by what the table holds at the offset
by_table : (l : List ℕ) (index : ℕ) → l ≡ tabulate (reset_of 0) 256 → index < 1024
    → page_reset_at index ≡ get_or l (index % 256) 0 + port_bits (index / 256) (index % 256)
unfolding page_reset_at
by_table l index e h =
    reset_by_port_lem (index / 256) (index % 256) (omega arith) (omega arith)
    ∙ rw (e, tabulate-at (reset_of 0) 256 (index % 256) (omega arith))

-- RAW10_ID and RAW12_ID, and the offsets before and after them
paged : (l : List ℕ) (index : ℕ) → l ≡ tabulate (reset_of 0) 256 → index < 1024
    → RAW10_ID ≤ index % 256 → index % 256 ≤ RAW12_ID
    → get_or l (index % 256) 0 + 64 * (index / 256) ≡ page_reset_at index
paged l index e h a b = sym (by_table l index e h ∙ rw (le-leb _ _ a, le-leb _ _ b))

before : (l : List ℕ) (index : ℕ) → l ≡ tabulate (reset_of 0) 256 → index < 1024 → index % 256 < RAW10_ID
    → get_or l (index % 256) 0 ≡ page_reset_at index
before l index e h a = sym (by_table l index e h ∙ rw (lt-leb _ _ a) (add-zero _))

after : (l : List ℕ) (index : ℕ) → l ≡ tabulate (reset_of 0) 256 → index < 1024 → RAW12_ID < index % 256
    → get_or l (index % 256) 0 ≡ page_reset_at index
after l index e h a =
    let b : RAW10_ID ≤ index % 256 = omega arith in
    sym (by_table l index e h ∙ rw (le-leb _ _ b, lt-leb _ _ a) (add-zero _))

pub overflow_add-result : goal.overflow_add-result
unfolding page_reset_at
overflow_add-result c =
    let index = c.args.index in
    omega (
      arith,
      paged _ _ c.requires.0 c.requires.1 (omega arith) (omega arith),
      reset_byte_lem (index / 256) (index % 256) (omega arith) (omega arith),
    )

pub returns-in-112-to-113 : goal.returns-in-112-to-113
returns-in-112-to-113 c = paged _ _ c.requires.0 c.requires.1 (omega arith) (omega arith)

pub returns-in_default : goal.returns-in_default
returns-in_default c = before _ _ c.requires.0 c.requires.1 (omega arith)

pub returns-in_default-2 : goal.returns-in_default-2
returns-in_default-2 c = after _ _ c.requires.0 c.requires.1 (omega arith)
