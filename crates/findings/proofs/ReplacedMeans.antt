-- The finding `replaced`, without counting blocks.
-- Assumes nothing.
use Rattle.std.proofs.Common.{◌≡◌, ℕ, ◌<◌, Bool, true, false, cond, ◌&&◌, ltb, List, sym, refl, ap, ◌∙◌, arith, ltb-true, lt-ltb}
use mathlib.Core.Option.{Option, none, some}
use Rattle.laws.proofs.Absurd.{zero_not_one}
use Rattle.laws.proofs.Bools.{both}
use Rattle.registers.specs.declared.RegisterFile.{RegisterFile}
use Rattle.origins.specs.declared.NumberedWrite.{NumberedWrite}
use Rattle.origins.specs.Origins.{Register, port_register, after_each, origin_of, LastReaching}
use Rattle.origins.specs.KeptOrigins.{number_of}
use Rattle.origins.specs.Effects.{changes}
use Rattle.origins.proofs.LastWrites.{every_origin_is_last}
use Rattle.std.specs.Prelude.{None, Some}
use Rattle.findings.specs.Blocks.{blocks_begun, numbered_by_block}
use Rattle.findings.specs.Replaced.{from_earlier_block, replaced, Replaces, EveryReplaced}
use Rattle.findings.proofs.BlockLaws.{none_reaches, origin_in_block, own_block, all_blocks}

-- the port's register at the write's offset
abbrev own : NumberedWrite → ℕ → Register
own w port = port_register port w.offset

module _ (start : RegisterFile) (before : List NumberedWrite) (w : NumberedWrite) (port : ℕ) where
  -- the origin's block is counted
  block_is : (o : NumberedWrite) (last : LastReaching start before (own w port) o)
      → number_of (origin_of start (numbered_by_block 0 before) (own w port))
      ≡ blocks_begun last.earlier
  block_is o last =
      ap number_of (origin_in_block (own w port) start before o last)
      ∙ own_block port w.offset start before o last

  -- no origin, no block
  no_block : origin_of start before (own w port) ≡ none
      → number_of (origin_of start (numbered_by_block 0 before) (own w port)) ≡ 0
  no_block e =
      let r = own w port in
      let nowhere = (every_origin_is_last start before r).only_none e in
      ap number_of
      ((every_origin_is_last start (numbered_by_block 0 before) r).every_none (none_reaches r start 0 before nowhere))

  found : (number : ℕ) → changes (after_each start before) w.offset w.value (own w port) ≡ true
      → from_earlier_block start before (own w port) ≡ true
      → number_of (origin_of start before (own w port)) ≡ number
      → Replaces start before w port number
  unfolding from_earlier_block
  found number c b n = go (origin_of start before (own w port)) refl
    where
      block : ℕ
      block = number_of (origin_of start (numbered_by_block 0 before) (own w port))

      some_block : 0 < block
      some_block = ltb-true 0 block (both (ltb 0 block) (ltb block (blocks_begun before)) b).0

      earlier_block : block < blocks_begun before
      earlier_block = ltb-true block (blocks_begun before) (both (ltb 0 block) (ltb block (blocks_begun before)) b).1

      go : (origin : Option NumberedWrite) → origin_of start before (own w port) ≡ origin
          → Replaces start before w port number
      go none e = absurd (omega (arith, some_block, no_block e))
      go (some o) e =
          let last = (every_origin_is_last start before (own w port)).only_last o e in
          let first = block_is o last in
          let all = all_blocks port w.offset start before o last in
          record {
            changed = c;
            origin = o;
            last = last;
            in_block = omega (arith, some_block, first);
            of_earlier = omega (arith, earlier_block, first, all);
            named = sym (ap number_of e) ∙ n;
          }

  only : (number : ℕ) → replaced start before w port ≡ Some number → Replaces start before w port number
  unfolding replaced
  only number e =
      go (changes (after_each start before) w.offset w.value (own w port))
      (from_earlier_block start before (own w port)) refl refl e
    where
      n : ℕ
      n = number_of (origin_of start before (own w port))

      go : (c b : Bool)
          → changes (after_each start before) w.offset w.value (own w port) ≡ c
          → from_earlier_block start before (own w port) ≡ b
          → cond (c && b) (Some n) None ≡ Some number → Replaces start before w port number
      go true true ec eb e = let q : n ≡ number = cc in found number ec eb q
      go true false ec eb e = zero_not_one (cc)
      go false b ec eb e = zero_not_one (cc)

  every : (number : ℕ) → Replaces start before w port number → replaced start before w port ≡ Some number
  unfolding replaced from_earlier_block
  every number r =
      let last = r.last in
      let first = blocks_begun last.earlier in
      let all = all_blocks port w.offset start before r.origin last in
      let is = (every_origin_is_last start before (own w port)).every_last r.origin last in
      let earlier : first < blocks_begun before = omega (arith, all, r.of_earlier) in
      rw (
        r.changed,
        block_is r.origin last,
        lt-ltb 0 first r.in_block,
        lt-ltb first (blocks_begun before) earlier,
        is,
        r.named,
      )

pub every_replaced : EveryReplaced
every_replaced start before w port = record { only = only start before w port; every = every start before w port }
