-- Laws of the table of kinds: a kind that is not in it, and what holds of refusal 13 and of a record of each kind.
-- Assumes nothing.
use mathlib.Core.Path.{◌≡◌, refl}
use mathlib.Core.Bool.{Bool, true, false, cond, not, ◌&&◌}
use mathlib.Core.List.{List, [], ◌∷◌}
use Prim.Native.Nat.{ℕ, ◌+◌, ◌*◌}
use borrow.Author.Tests.{ne_eqb}
use lib.Dec.{eqb}
use lib.ListN.{length, get_or, drop}
use Rattle.laws.specs.Reply.{Reply, refused, given}
use Rattle.registers.specs.declared.power_up.PowerUp.{PowerUp}
use Rattle.registers.specs.declared.power_up.PowerUp.TheVariants.{Boot, Reset}
use Rattle.trace.specs.Framing.{holds_record, has_mark, kind_byte, data_of}
use Rattle.trace.specs.Records.{TraceRecord, hub_record, write_record, read_record, write_question, read_question, start_record, end_record, pixel_line_record}
use Rattle.trace.specs.Records.{hub_asked, question_record, KindRow, kind_rows, kind_row_in, kind_row, length_allowed, kind_record, record_of}

-- what a `match` on the kind leaves for its last arm: no row has the kind
abbrev pub NoRow : Type 0 → List KindRow → ℕ → Type 0
NoRow Before [] kind = Before
NoRow Before (row ∷ rows) kind = NoRow (Before × (kind ≡ row.kind → ⊥)) rows kind

-- it has the row of a kind that is not in the table
pub no_row : {Before : Type 0} (rows : List KindRow) (kind : ℕ) → NoRow Before rows kind → Before × (kind_row_in rows kind ≡ kind_row_in [] kind)
unfolding kind_row_in
no_row [] kind n = (n, refl)
no_row (row ∷ rows) kind n =
    let later = no_row rows kind n in (later.0.0, rw (ne_eqb kind row.kind later.0.1) later.1)

module _ (P : Reply TraceRecord → Type 0) where
  -- by either way of a test
  either : (b : Bool) {x y : Reply TraceRecord} → P x → P y → P (cond b x y)
  either true p q = p
  either false p q = q

  module _ (none : P (refused 13)) where
    -- what each row asks
    abbrev Asked : List KindRow → List ℕ → Type 0
    Asked [] bytes = Unit
    Asked (row ∷ rows) bytes = P (row.asked bytes) × Asked rows bytes

    by_row : (rows : List KindRow) (kind : ℕ) (bytes : List ℕ) → Asked rows bytes → P ((kind_row_in rows kind).asked bytes)
    unfolding kind_row_in
    by_row [] kind bytes a = none
    by_row (row ∷ rows) kind bytes a = go (eqb kind row.kind) (by_row rows kind bytes a.1)
      where
        go : (b : Bool) → P ((kind_row_in rows kind).asked bytes) → P ((cond b row (kind_row_in rows kind)).asked bytes)
        go true later = a.0
        go false later = later

    -- a record of a kind; the hub record is the first alone
    by_kind : (first : Bool) (kind : ℕ) (bytes : List ℕ) → (first ≡ true → P (hub_asked bytes))
        → Asked (drop 1 kind_rows) bytes → P (kind_record first kind bytes)
    unfolding kind_rows kind_record kind_row_in
    by_kind true kind bytes hub later = either (eqb kind 0x00 && length_allowed kind (length bytes)) (by_row kind_rows kind bytes (hub refl, later)) none
    by_kind false kind bytes hub later = go (eqb kind 0x00) (length_allowed kind (length bytes))
      where
        go : (b allowed : Bool)
            → P (cond (not b && allowed) ((cond b (kind_row 0x00) (kind_row_in (drop 1 kind_rows) kind)).asked bytes) (refused 13))
        go true allowed = none
        go false allowed = either allowed (by_row (drop 1 kind_rows) kind bytes later) none

    -- the hub record, by how the hub starts
    by_start : (bytes : List ℕ) → ((start : PowerUp) → P (given (hub_record (get_or bytes 0 0) start))) → P (hub_asked bytes)
    unfolding hub_asked
    by_start bytes hub = either (eqb (length bytes) 1) (hub Boot) (either (eqb (get_or bytes 1 0) 0) (hub Reset) none)

    -- the record at the start of some bytes, by what it may ask
    pub by_record : (first : Bool) (bytes : List ℕ) →
        let d = data_of bytes in
        (first ≡ true → (start : PowerUp) → P (given (hub_record (get_or d 0 0) start)))
        → P (given (write_record (get_or d 0 0) (drop 1 d)))
        → P (given (read_record (get_or d 0 0)))
        → P (given (write_question (get_or d 0 0)))
        → P (given (read_question (get_or d 0 0)))
        → P (given (start_record (get_or d 0 0) (get_or d 1 0)))
        → P (given (end_record (get_or d 0 0)))
        → P (given (pixel_line_record (get_or d 0 0) (get_or d 1 0 + 256 * get_or d 2 0) (get_or d 3 0 + 256 * get_or d 4 0)))
        → P (record_of first bytes)
    unfolding kind_rows record_of question_record
    by_record first bytes hub write read hears answers start end line =
        let direction = get_or (data_of bytes) 1 0 in
        let question = either (eqb direction 0) hears (either (eqb direction 1) answers none) in
        either (holds_record bytes && has_mark bytes)
        (by_kind first (kind_byte bytes) (data_of bytes) (λ e. by_start (data_of bytes) (hub e)) (write, (read, (question, (start, (end, (line, tt)))))))
        none

    -- the first record of a trace: a hub record, or none
    pub by_first : (bytes : List ℕ) → ((start : PowerUp) → P (given (hub_record (get_or (data_of bytes) 0 0) start)))
        → P (record_of true bytes)
    unfolding kind_rows record_of kind_record kind_row_in
    by_first bytes hub =
        either (holds_record bytes && has_mark bytes)
        (go (eqb (kind_byte bytes) 0x00) (length_allowed (kind_byte bytes) (length (data_of bytes)))) none
      where
        go : (b allowed : Bool)
            → P (cond (b && allowed)
            ((cond b (kind_row 0x00) (kind_row_in (drop 1 kind_rows) (kind_byte bytes))).asked (data_of bytes)) (refused 13))
        go true allowed = either allowed (by_start (data_of bytes) hub) none
        go false allowed = none

    -- whatever it asks
    pub by_any : (first : Bool) (bytes : List ℕ) → ((asked : TraceRecord) → P (given asked)) → P (record_of first bytes)
    by_any first bytes any = by_record first bytes (λ e start. any _) (any _) (any _) (any _) (any _) (any _) (any _) (any _)
