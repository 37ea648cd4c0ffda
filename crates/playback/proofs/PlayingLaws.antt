-- Laws of the records of some bytes: enough of them asked for, the next one, none left, and that 8 never occurs.
-- Assumes nothing.
use Rattle.std.proofs.Common.{◌≡◌, ℕ, zero, suc, ◌≤◌, Bool, true, false, cond, eqb, List, length, drop, replicate, sym, refl, ap, ◌∙◌, arith, eq-eqb, ne_eqb}
use mathlib.Core.List.Memᴰ
use mathlib.Core.List.{Memᴰ}
use mathlib.Core.Option.{Option}
use borrow.Author.Tests.{eqb-false}
use lib.ListN.{length-replicate}
use Rattle.laws.specs.Reply.{refused_with}
use Rattle.registers.specs.declared.power_up.PowerUp.TheVariants.{Boot}
use Rattle.hub.specs.declared.Hub.{Hub}
use Rattle.hub.specs.Hubs.{hub_at}
use Rattle.trace.specs.Framing.{record_length}
use Rattle.trace.specs.Records.{record_of}
use Rattle.trace.proofs.WindowLaws.{rest_less}
use Rattle.playback.specs.Playing.{Played, play_record, PlayedRecords, none_left, answer_then, play_records, packet_room, EightNeverOccurs}
use Rattle.playback.proofs.SoundPlays.{Sound, found_sound}

-- a record that was played, and the records after it
abbrev pub played_then : Played → PlayedRecords → PlayedRecords
played_then played later = answer_then played.reply (cond played.ends (none_left played.hub) later)

-- no byte is left
pub no_records : (n : ℕ) (first : Bool) (hub : Hub) (packets bytes : List ℕ) → length bytes ≡ 0 → play_records n first hub packets bytes ≡ none_left hub
unfolding play_records
no_records zero first hub packets bytes h = refl
no_records (suc n) first hub packets bytes h = rw (eq-eqb (length bytes) 0 h)

-- There are no more records than bytes: with enough of them asked for, what comes of them is the same.
same_records : (n m : ℕ) (first : Bool) (hub : Hub) (packets bytes : List ℕ) → length bytes ≤ n → length bytes ≤ m
    → play_records n first hub packets bytes ≡ play_records m first hub packets bytes
unfolding play_records
same_records zero m first hub packets bytes h k = sym (no_records m first hub packets bytes (omega arith))
same_records (suc n) zero first hub packets bytes h k = no_records (suc n) first hub packets bytes (omega arith)
same_records (suc n) (suc m) first hub packets bytes h k =
    go (eqb (length bytes) 0) refl (same_records n m false done.hub done.packets rest)
  where
    done : Played
    done = play_record hub packets (record_of first bytes)

    rest : List ℕ
    rest = drop (record_length bytes) bytes

    later : ℕ → PlayedRecords
    later n = play_records n false done.hub done.packets rest

    go : (b : Bool) → eqb (length bytes) 0 ≡ b → (length rest ≤ n → length rest ≤ m → later n ≡ later m)
        → cond b (none_left hub) (played_then done (later n)) ≡ cond b (none_left hub) (played_then done (later m))
    go true e ih = refl
    go false e ih =
        let ne = eqb-false (length bytes) 0 e in
        let less = rest_less bytes (omega arith) in
        ap (played_then done) (ih (omega arith) (omega arith))

-- a byte is left: the next record, and what comes after it
pub next_record : (first : Bool) (hub : Hub) (packets bytes : List ℕ) → 1 ≤ length bytes
    → let played = play_record hub packets (record_of first bytes) in
    let rest = drop (record_length bytes) bytes in
    play_records (length bytes) first hub packets bytes ≡ played_then played (play_records (length rest) false played.hub played.packets rest)
unfolding play_records
next_record first hub packets bytes h =
    let played = play_record hub packets (record_of first bytes) in
    let rest = drop (record_length bytes) bytes in
    let less = rest_less bytes h in
    same_records (length bytes) (suc (length bytes)) first hub packets bytes (omega arith) (omega arith)
    ∙ rw (ne_eqb (length bytes) 0 (λ e. omega arith))
    (ap (played_then played) (same_records (length bytes) (length rest) false played.hub played.packets rest (omega arith) (omega arith)))

-- with the room that the player lends, refusal 8 is no answer to the records of any bytes
not_eight : {detail : Option ℕ} (n : ℕ) (first : Bool) (hub : Hub) (packets bytes : List ℕ) → length packets ≡ packet_room
    → Memᴰ (refused_with 8 detail) (play_records n first hub packets bytes).answers → ⊥
unfolding play_records
not_eight zero first hub packets bytes room m = Memᴰ.not-nil m
not_eight {detail} (suc n) first hub packets bytes room m =
    go (eqb (length bytes) 0) done.ends m (not_eight n false done.hub done.packets rest (omega (arith, sound.room)))
  where
    done : Played
    done = play_record hub packets (record_of first bytes)

    rest : List ℕ
    rest = drop (record_length bytes) bytes

    sound : Sound packets done
    sound = found_sound hub packets first bytes

    later : PlayedRecords
    later = play_records n false done.hub done.packets rest

    go : (a b : Bool)
        → Memᴰ (refused_with 8 detail) (cond a (none_left hub) (answer_then done.reply (cond b (none_left done.hub) later))).answers
        → (Memᴰ (refused_with 8 detail) later.answers → ⊥) → ⊥
    go true b k ih = Memᴰ.not-nil k
    go false b (Memᴰ.head e) ih = sound.not_eight (omega arith) detail (sym e)
    go false true (Memᴰ.tail k) ih = Memᴰ.not-nil k
    go false false (Memᴰ.tail k) ih = ih k

pub eight_never_occurs : EightNeverOccurs
eight_never_occurs file detail m =
    not_eight (length file) true (hub_at Boot 0x08) (replicate packet_room 0) file (length-replicate {A = ℕ} packet_room 0) m
