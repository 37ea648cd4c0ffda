-- Laws of a trace's writes: those of the next record, and then those of what is left after it.
-- Assumes nothing.
use mathlib.Core.Path.{◌≡◌, refl, ap, ◌∙◌}
use mathlib.Core.Bool.{Bool, true, false, cond}
use mathlib.Core.List.{List}
use Prim.Native.Nat.{ℕ, zero, suc, ◌+◌, ◌≤◌}
use native.Mathlib.Omega.{arith}
use borrow.Author.Tests.{eq-eqb, ne_eqb, eqb-false}
use lib.Dec.{eqb}
use lib.ListN.{length, drop, length-drop}
use Rattle.laws.specs.Reply.{Reply, refused_with, given, and_then}
use Rattle.trace.specs.Framing.{record_length}
use Rattle.trace.specs.Records.{record_of}
use Rattle.trace.proofs.RecordLaws.{some_bytes}
use Rattle.tracewrites.specs.TraceWrites.{TraceWrites, after_record, after_records}

-- what follows from a reply is the same where it is for all that may be given
then_same : (reply : Reply TraceWrites) {f g : TraceWrites → Reply TraceWrites} → ((after : TraceWrites) → f after ≡ g after) → and_then reply f ≡ and_then reply g
then_same (refused_with number detail) same = refl
then_same (given after) same = same after

-- There are no more records than bytes: with enough of them asked for, the writes are the same.
enough_records : (n m records : ℕ) (before : TraceWrites) (bytes : List ℕ) → length bytes ≤ n → length bytes ≤ m
    → after_records n records before bytes ≡ after_records m records before bytes
unfolding after_records
enough_records zero zero records before bytes h k = refl
enough_records zero (suc m) records before bytes h k = rw (eq-eqb (length bytes) 0 (omega arith))
enough_records (suc n) zero records before bytes h k = rw (eq-eqb (length bytes) 0 (omega arith))
enough_records (suc n) (suc m) records before bytes h k =
    go (eqb (length bytes) 0) refl (λ after. enough_records n m (records + 1) after rest)
  where
    rest : List ℕ
    rest = drop (record_length bytes) bytes

    here : Reply TraceWrites
    here = after_record before (records + 1) (record_of (eqb records 0) bytes)

    go : (b : Bool) → eqb (length bytes) 0 ≡ b
        → ((after : TraceWrites) → length rest ≤ n → length rest ≤ m → after_records n (records + 1) after rest ≡ after_records m (records + 1) after rest)
        → cond b (given before) (and_then here (λ after. after_records n (records + 1) after rest))
        ≡ cond b (given before) (and_then here (λ after. after_records m (records + 1) after rest))
    go true e ih = refl
    go false e ih =
        let some = eqb-false (length bytes) 0 e in
        let size = some_bytes bytes in
        let less = length-drop (record_length bytes) bytes in
        then_same here (λ after. ih after (omega arith) (omega arith))

-- the writes of some bytes are those of the next record, and then those of what is left after it
pub records_join : (records : ℕ) (before : TraceWrites) (left : List ℕ) → 1 ≤ length left
    → let rest = drop (record_length left) left in
    after_records (length left) records before left
    ≡ and_then (after_record before (records + 1) (record_of (eqb records 0) left)) (λ after. after_records (length rest) (records + 1) after rest)
unfolding after_records
records_join records before left h =
    let rest = drop (record_length left) left in
    let less = length-drop (record_length left) left in
    let here = after_record before (records + 1) (record_of (eqb records 0) left) in
    enough_records (length left) (suc (length left)) records before left (omega arith) (omega arith)
    ∙ ap (λ (b : Bool). cond b (given before) (and_then here (λ after. after_records (length left) (records + 1) after rest)))
    (ne_eqb (length left) 0 (λ e. omega arith))
    ∙ then_same here (λ after. enough_records (length left) (length rest) (records + 1) after rest (omega arith) (omega arith))
