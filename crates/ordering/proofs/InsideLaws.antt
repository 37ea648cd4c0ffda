-- A shared write inside the blocks is found by its place among the writes.
-- Assumes nothing.
use Rattle.std.proofs.Common.{◌≡◌, ℕ, suc, ◌+◌, ◌^◌, ◌<◌, ◌≤◌, Bool, true, false, cond, ◌&&◌, ltb, List, [], ◌∷◌, ◌++◌, length, refl, ap, ◌∙◌, mod-eq_of_lt, arith, length-append, le-ltb, lt-ltb}
use Rattle.origins.specs.declared.NumberedWrite.{NumberedWrite}
use Rattle.ordering.specs.declared.kinds.WriteKind.{WriteKind}
use Rattle.ordering.specs.declared.kinds.WriteKind.TheVariants.{NotFollowed, Selection}
use Rattle.ordering.specs.declared.kinds.WriteKind.TheVariants.{PortRegister, SharedRegister}
use Rattle.ordering.specs.declared.inside.Extent.{Extent}
use Rattle.ordering.specs.Kinds.{kind, is_selection, is_shared, is_of_block, any_write}
use Rattle.ordering.specs.Inside.{shared_in_block, extent_by, extent_step, first_extent, extent_after, extent_of}
use Rattle.ordering.specs.Inside.{shared_inside_now, SharedInBlockExact}

pub extent_append : (extent : Extent) (a b : List NumberedWrite)
    → extent_after extent (a ++ b) ≡ extent_after (extent_after extent a) b
unfolding extent_after
extent_append extent [] b = refl
extent_append extent (w ∷ a) b = extent_append (extent_step extent w.offset) a b

-- one write more, where the count fits
after_one : (extent : Extent) (w : NumberedWrite) (ws : List NumberedWrite) → extent.count + 1 < 2 ^ 64
    → extent_after extent (w ∷ ws) ≡ extent_after (extent_by (kind w) (extent.count + 1) extent) ws
unfolding extent_after extent_step
after_one extent w ws h =
    ap (λ (n : ℕ). extent_after (extent_by (kind w) n extent) ws) (mod-eq_of_lt h)

count_by : (k : WriteKind) (n : ℕ) (extent : Extent) → (extent_by k n extent).count ≡ n
count_by NotFollowed n extent = refl
count_by Selection n extent = refl
count_by PortRegister n extent = refl
count_by SharedRegister n extent = refl

-- the end after writes: past all writes before them if one of them is a selection or a per-port write, and else as it
-- was
abbrev EndIs : Bool → ℕ → ℕ → ℕ → Type 0
EndIs true count old new = count < new
EndIs false count old new = new ≡ old

-- the extent after n writes: whether there is a selection among them, and a selection or a per-port write
record Longer (old new : Extent) (selection ofBlock : Bool) (n : ℕ) : Type 0 where
  count : new.count ≡ old.count + n
  started : new.started ≡ cond old.started true selection
  end : EndIs ofBlock old.count old.end new.end
  within : old.end ≤ old.count → new.end ≤ new.count

unmoved : (old new : Extent) (s b : Bool) (n : ℕ)
    → Longer (record { count = old.count + 1; started = old.started; end = old.end }) new s b n
    → Longer old new s b (suc n)
unmoved old new s b n r =
    record {
      count = omega (arith, r.count);
      started = r.started;
      end = later b r.end;
      within = λ w. r.within (omega arith);
    }
  where
    later : (b : Bool) → EndIs b (old.count + 1) old.end new.end → EndIs b old.count old.end new.end
    later true h = omega arith
    later false h = h

-- a selection or a per-port write moves the end
moved : (b : Bool) (count end : ℕ) → EndIs b (count + 1) (count + 1) end → count < end
moved true count end h = omega arith
moved false count end h = omega arith

one_more : (k : WriteKind) (old new : Extent) (s b : Bool) (n : ℕ) → Longer (extent_by k (old.count + 1) old) new s b n
    → Longer old new (cond (is_selection k) true s) (cond (is_of_block k) true b) (suc n)
one_more NotFollowed old new s b n r = unmoved old new s b n r
one_more Selection old new s b n r =
    record {
      count = omega (arith, r.count);
      started = r.started ∙ already old.started;
      end = moved b old.count new.end r.end;
      within = λ w. r.within (omega arith);
    }
  where
    already : (c : Bool) → true ≡ cond c true true
    already true = refl
    already false = refl
one_more PortRegister old new s b n r =
    record {
      count = omega (arith, r.count);
      started = r.started;
      end = moved b old.count new.end r.end;
      within = λ w. r.within (omega arith);
    }
one_more SharedRegister old new s b n r = unmoved old new s b n r

known : (extent : Extent) (ws : List NumberedWrite) → extent.count + length ws < 2 ^ 64
    → Longer extent (extent_after extent ws) (any_write is_selection ws) (any_write is_of_block ws) (length ws)
unfolding extent_after any_write
known extent [] h = record { count = omega arith; started = same extent.started; end = refl; within = λ w. w }
  where
    same : (b : Bool) → b ≡ cond b true false
    same true = refl
    same false = refl
known extent (w ∷ ws) h =
    let next = extent_by (kind w) (extent.count + 1) extent in
    rw (after_one extent w ws (omega arith))
    (one_more (kind w) extent _ _ _ (length ws)
    (known next ws (omega (arith, count_by (kind w) (extent.count + 1) extent))))

-- the test of a shared write
module _ (before : List NumberedWrite) (w : NumberedWrite) (after : List NumberedWrite)
    (fits : length (before ++ (w ∷ after)) < 2 ^ 64) where
  first : Longer first_extent (extent_of before) (any_write is_selection before) (any_write is_of_block before) (length before)
  unfolding first_extent
  first = known first_extent before (omega (arith, length-append before (w ∷ after)))

  then : Longer (extent_of before) (extent_of (before ++ (w ∷ after)))
      (any_write is_selection (w ∷ after)) (any_write is_of_block (w ∷ after)) (length (w ∷ after))
  unfolding first_extent
  then =
      rw (extent_append first_extent before (w ∷ after))
      (known (extent_of before) (w ∷ after) (omega (arith, first.count, length-append before (w ∷ after))))

  started : (extent_of before).started ≡ any_write is_selection before
  unfolding first_extent
  started = first.started

  in_time : kind w ≡ SharedRegister
      → ltb (extent_of before).count (extent_of (before ++ (w ∷ after))).end ≡ any_write is_of_block after
  unfolding any_write first_extent
  in_time e = go (any_write is_of_block after) (rw e at then.end)
    where
      go : (b : Bool)
          → EndIs b (extent_of before).count (extent_of before).end (extent_of (before ++ (w ∷ after))).end
          → ltb (extent_of before).count (extent_of (before ++ (w ∷ after))).end ≡ b
      go true h = lt-ltb (extent_of before).count (extent_of (before ++ (w ∷ after))).end h
      go false h =
          le-ltb (extent_of before).count (extent_of (before ++ (w ∷ after))).end
          (omega (arith, h, first.within (omega arith)))

pub shared_in_block_exact : SharedInBlockExact
unfolding shared_inside_now shared_in_block
shared_in_block_exact before w after fits = go (kind w) refl
  where
    go : (k : WriteKind) → kind w ≡ k
        → (is_shared k
        && ((extent_of before).started && ltb (extent_of before).count (extent_of (before ++ (w ∷ after))).end))
        ≡ (is_shared k && (any_write is_selection before && any_write is_of_block after))
    go NotFollowed e = refl
    go Selection e = refl
    go PortRegister e = refl
    go SharedRegister e = rw (started before w after fits, in_time before w after fits e)
