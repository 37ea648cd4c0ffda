-- Laws of a record at the start of some bytes: it is read back, it is the same in a window, and it is no longer than the longest.
-- Assumes nothing.
use mathlib.Core.Path.{◌≡◌, refl}
use mathlib.Core.Bool.{Bool, true, false, cond, ◌&&◌}
use mathlib.Core.List.{List, [], ◌∷◌, ◌++◌}
use Prim.Native.Nat.{ℕ, ◌+◌, ◌≤◌, ◌<◌}
use native.Mathlib.Nat.{min-le_left}
use native.Mathlib.Omega.{arith}
use borrow.Author.Tests.{leb-true, le-leb, lt-leb}
use lib.ListN.{length, get_or, drop, length-append, length-take, length-drop, get_or-append}
use lib.Seq.{take-append-le, drop-append-le, take-append_seam, drop_at}
use Rattle.laws.specs.Reply.{refused, given}
use Rattle.laws.specs.Elements.{AreBytes}
use Rattle.laws.proofs.Elements.{below_from, below_to}
use Rattle.laws.proofs.Absurd.{zero_not_one}
use Rattle.registers.specs.declared.power_up.PowerUp.{PowerUp}
use Rattle.registers.specs.declared.power_up.PowerUp.TheVariants.{Boot, Reset}
use Rattle.trace.specs.Framing.{framing_of, record_length, has_mark, kind_byte, data_of, holds_record, record_bytes, longest_record}
use Rattle.trace.specs.Records.{hub_data, hub_asked}
use Rattle.trace.specs.Records.{TraceRecord, hub_record, write_record, kind_rows, kind_row_in, kind_record, record_of}
use Rattle.trace.specs.Laws.{ReadsBack, SameRecord, LongestRecord}

-- a record has its mark, its kind and its length byte at least
pub some_bytes : (bytes : List ℕ) → 4 ≤ record_length bytes
unfolding framing_of
some_bytes bytes = omega arith

-- a record that is cut short is refused
pub cut_short_lem : (first : Bool) (bytes : List ℕ) → length bytes < record_length bytes → record_of first bytes ≡ refused 13
unfolding record_of
cut_short_lem first bytes h = rw (lt-leb (record_length bytes) (length bytes) h)

-- a record that is given is there whole
pub given_whole : (first : Bool) (bytes : List ℕ) {asked : TraceRecord} → record_of first bytes ≡ given asked → record_length bytes ≤ length bytes
unfolding record_of
given_whole first bytes {asked} e = go (holds_record bytes) refl e
  where
    go : (b : Bool) → holds_record bytes ≡ b → cond (b && has_mark bytes) (kind_record first (kind_byte bytes) (data_of bytes)) (refused 13) ≡ given asked
        → record_length bytes ≤ length bytes
    go true p q = leb-true (record_length bytes) (length bytes) p
    go false p q = zero_not_one (cc)

pub reads_back : ReadsBack
unfolding record_of data_of framing_of
reads_back first kind bytes rest =
    let more = length-append bytes rest in
    (rw (le-leb (4 + length bytes) (length (record_bytes kind bytes ++ rest)) (omega arith), take-append_seam bytes rest), refl)

-- the two records that a script makes
pub hub_back : (address : ℕ) (start : PowerUp) (rest : List ℕ)
    → record_of true (record_bytes 0x00 (hub_data address start) ++ rest) ≡ given (hub_record address start)
unfolding kind_record kind_row_in kind_rows hub_asked
hub_back address Boot rest = (reads_back true 0x00 (address ∷ []) rest).0
hub_back address Reset rest = (reads_back true 0x00 (address ∷ 0 ∷ []) rest).0

pub write_back : (offset value : ℕ) (rest : List ℕ)
    → record_of false (record_bytes 0x01 (offset ∷ value ∷ []) ++ rest) ≡ given (write_record offset (value ∷ []))
unfolding kind_record kind_row_in kind_rows
write_back offset value rest = (reads_back false 0x01 (offset ∷ value ∷ []) rest).0

-- what follows a record
pub rest_back : (kind : ℕ) (bytes rest : List ℕ)
    → drop (record_length (record_bytes kind bytes ++ rest)) (record_bytes kind bytes ++ rest) ≡ rest
unfolding framing_of
rest_back kind bytes rest = drop_at (record_bytes kind bytes) rest (4 + length bytes) (omega arith)

-- the data is no longer than the record after its head
pub data_most : (bytes : List ℕ) → 4 + length (data_of bytes) ≤ record_length bytes
unfolding data_of framing_of
data_most bytes =
    let frame = framing_of bytes in
    omega (arith, length-take frame.count (drop frame.start bytes), min-le_left frame.count (length (drop frame.start bytes)))

-- nor is a record longer than the longest
pub record_most : (bytes : List ℕ) → get_or bytes 3 0 < 256 → record_length bytes ≤ longest_record
unfolding framing_of
record_most bytes small = omega arith

-- the data of bytes are bytes
pub data_bytes : (bytes : List ℕ) → AreBytes bytes → AreBytes (data_of bytes)
unfolding data_of
data_bytes bytes small = let frame = framing_of bytes in below_to 256 frame.count _ (below_from 256 frame.start bytes small)

pub longest_record_lem : LongestRecord
longest_record_lem bytes small long = le-leb (record_length bytes) (length bytes) (omega (arith, record_most bytes small))

-- a window on a file that holds its next record
module _ (window rest : List ℕ) (whole : record_length window ≤ length window) where
  -- each byte of the record's head is the window's
  head_at : (k : ℕ) → k < 4 → get_or (window ++ rest) k 0 ≡ get_or window k 0
  head_at k h = let some = some_bytes window in get_or-append window rest 0 k (omega arith)

  same_framing : framing_of (window ++ rest) ≡ framing_of window
  unfolding framing_of
  same_framing = rw (head_at 3 (omega arith))

  same_data : data_of (window ++ rest) ≡ data_of window
  unfolding data_of
  same_data =
      let frame = framing_of window in
      let more = length-drop frame.start window in
      rw (same_framing, drop-append-le frame.start window rest (omega arith), take-append-le frame.count (drop frame.start window) rest (omega arith))

  file_holds : holds_record (window ++ rest) ≡ true
  file_holds =
      let more = length-append window rest in
      rw same_framing (le-leb (record_length window) (length (window ++ rest)) (omega arith))

pub same_record : SameRecord
unfolding record_of
same_record first window rest holds =
    let whole = leb-true (record_length window) (length window) holds in
    let at = head_at window rest whole in (
      rw (file_holds window rest whole, holds, at 0 (omega arith), at 1 (omega arith), at 2 (omega arith), same_data window rest whole),
      rw (same_framing window rest whole),
    )
