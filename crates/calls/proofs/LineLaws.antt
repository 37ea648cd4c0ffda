-- A line is read exactly where it is one of the grammar: blanks, a word, a value and a whole line, each both ways.
-- Assumes nothing.
use mathlib.Core.Path.{◌≡◌, refl, ap}
use mathlib.Core.Bool.{Bool, true, false, cond, ◌||◌, and-eq-true_iff}
use mathlib.Core.List.{List, [], ◌∷◌, ◌++◌}
use mathlib.Core.Option.{Option, none, some, some-injective}
use Prim.Native.Nat.{ℕ}
use borrow.Author.Tests.{ltb-true, lt-ltb, eq-eqb, eqb-true}
use lib.Dec.{eqb, ltb}
use lib.ListN.{get_or}
use lib.Seq.{drop-cons}
use Rattle.laws.specs.Texts.{ascii}
use Rattle.laws.proofs.Absurd.{zero_not_one}
use Rattle.registers.specs.Bursts.{RegisterWrite}
use Rattle.calls.specs.Grammar.{all, is_blank, Blanks, digit_value, ValueText, one_digit, two_digits, is_comment_or_none, CallLine, IsScriptLine, blank, called}
use Rattle.calls.specs.ScriptLines.{after_blanks, after_prefix, after_token, digits_read, value_read, script_line_ends, call_if_ended, call_read, script_line_read, ScriptLinesTaken}
use Rattle.calls.proofs.ScanLaws.{digit_inside}

-- what is given under a test is given where the test passes
tested : {A : Type 0} (test : Bool) {answer : Option A} {found : A} → cond test answer none ≡ some found → (test ≡ true) × (answer ≡ some found)
tested true e = (refl, e)
tested false e = zero_not_one (cc)

-- blanks are passed over
blanks_passed : (bytes rest : List ℕ) → all is_blank bytes ≡ true → after_blanks (bytes ++ rest) ≡ after_blanks rest
unfolding after_blanks
blanks_passed [] rest h = refl
blanks_passed (byte ∷ bytes) rest h =
    let k = (and-eq-true_iff (is_blank byte) (all is_blank bytes)).0 h in
    rw k.0 (blanks_passed bytes rest k.1)

-- and nothing else is
no_blanks : Blanks
no_blanks = record { bytes = []; blank = refl }

abbrev Passed : List ℕ → Type 0
Passed text = (blanks : Blanks) × (text ≡ blanks.bytes ++ after_blanks text)

blanks_found : (text : List ℕ) → Passed text
unfolding after_blanks no_blanks
blanks_found [] = (no_blanks, refl)
blanks_found (byte ∷ bytes) = go (is_blank byte) refl (blanks_found bytes)
  where
    go : (b : Bool) → is_blank byte ≡ b → Passed bytes → Passed (byte ∷ bytes)
    go true e found =
        (record { bytes = byte ∷ found.0.bytes; blank = rw e found.0.blank }, rw e (ap (λ (l : List ℕ). byte ∷ l) found.1))
    go false e found = (no_blanks, rw e)

-- a word in front is taken
word_taken : (word rest : List ℕ) → after_prefix word (word ++ rest) ≡ some rest
unfolding after_prefix
word_taken [] rest = refl
word_taken (letter ∷ word) rest = rw (eq-eqb letter letter refl) (word_taken word rest)

-- and where it was taken it stood
word_found : (word text rest : List ℕ) → after_prefix word text ≡ some rest → text ≡ word ++ rest
unfolding after_prefix
word_found [] text rest e = cc
word_found (letter ∷ word) [] rest e = cc
word_found (letter ∷ word) (byte ∷ text) rest e =
    let k = tested (eqb byte letter) e in
    let here = eqb-true byte letter k.0 in
    let later = word_found word text rest k.1 in
    cc

-- the same after blanks, for a word that starts with none
token_taken : (blanks : Blanks) (word rest : List ℕ) → after_blanks (word ++ rest) ≡ word ++ rest
    → after_token word (some (blanks.bytes ++ (word ++ rest))) ≡ some rest
unfolding after_token
token_taken blanks word rest h = rw (blanks_passed blanks.bytes (word ++ rest) blanks.blank, h) (word_taken word rest)

token_found : (word : List ℕ) (before : Option (List ℕ)) {rest : List ℕ} → after_token word before ≡ some rest
    → (blanks : Blanks) × (before ≡ some (blanks.bytes ++ (word ++ rest)))
unfolding after_token
token_found word none e = (no_blanks, cc)
token_found word (some text) {rest} e =
    let found = blanks_found text in
    let next = word_found word (after_blanks text) rest e in
    (found.0, cc)

-- a blank is no digit
blank_other : (byte : ℕ) → is_blank byte ≡ true → digit_value byte ≡ 16
unfolding is_blank digit_value
blank_other byte h = go (eqb byte 32) refl h
  where
    go : (b : Bool) → eqb byte 32 ≡ b → (b || eqb byte 9) ≡ true → digit_value byte ≡ 16
    go true e k = rw (eqb-true byte 32 e)
    go false e k = rw (eqb-true byte 9 k)

-- so no digit comes next where blanks come, and after them no digit
no_digit : (bytes rest : List ℕ) → all is_blank bytes ≡ true → digit_value (get_or rest 0 0) ≡ 16 → digit_value (get_or (bytes ++ rest) 0 0) ≡ 16
no_digit [] rest h e = e
no_digit (byte ∷ bytes) rest h e = blank_other byte ((and-eq-true_iff (is_blank byte) (all is_blank bytes)).0 h).0

-- a value is taken where no digit comes next
value_taken : (blanks : Blanks) {text : List ℕ} {value : ℕ} (rest : List ℕ) → ValueText text value → digit_value (get_or rest 0 0) ≡ 16
    → value_read (some (blanks.bytes ++ (text ++ rest))) ≡ record { value = value; rest = some rest }
unfolding value_read digits_read after_blanks is_blank
value_taken blanks rest (one_digit digit small shape same) h =
    rw (shape, same, token_taken blanks (ascii "0x") (digit ∷ rest) refl, lt-ltb (digit_value digit) 16 small, h)
value_taken blanks rest (two_digits high low small less shape same) h =
    rw (shape, same, token_taken blanks (ascii "0x") (high ∷ low ∷ rest) refl, lt-ltb (digit_value high) 16 small, lt-ltb (digit_value low) 16 less)

-- and where digits were read they stood
abbrev DigitsAt : Option (List ℕ) → List ℕ → Type 0
DigitsAt before rest = (digits : List ℕ) × ValueText (ascii "0x" ++ digits) (digits_read before).value × (before ≡ some (digits ++ rest))

digits_found : (before : Option (List ℕ)) (rest : List ℕ) → (digits_read before).rest ≡ some rest → DigitsAt before rest
unfolding digits_read
digits_found none rest e = zero_not_one (cc)
digits_found (some bytes) rest e = go (ltb (digit_value high) 16) refl (ltb (digit_value low) 16) refl
  where
    high : ℕ
    high = get_or bytes 0 0

    low : ℕ
    low = get_or bytes 1 0

    go : (a : Bool) → ltb (digit_value high) 16 ≡ a → (b : Bool) → ltb (digit_value low) 16 ≡ b → DigitsAt (some bytes) rest
    go true p true q =
        let a = ltb-true (digit_value high) 16 p in
        let b = ltb-true (digit_value low) 16 q in
        let left = rw (p, q) at e in
        let first = drop-cons bytes 0 0 (digit_inside bytes 0 a) in
        let second = drop-cons bytes 1 0 (digit_inside bytes 1 b) in
        (high ∷ low ∷ [], two_digits high low a b refl (rw (p, q)), cc)
    go true p false q =
        let a = ltb-true (digit_value high) 16 p in
        let left = rw (p, q) at e in
        let first = drop-cons bytes 0 0 (digit_inside bytes 0 a) in
        (high ∷ [], one_digit high a refl (rw (p, q)), cc)
    go false p b q = let left = rw p at e in zero_not_one (cc)

value_found : (before : Option (List ℕ)) {rest : List ℕ} → (value_read before).rest ≡ some rest
    → (blanks : Blanks) × (text : List ℕ) × ValueText text (value_read before).value × (before ≡ some (blanks.bytes ++ (text ++ rest)))
unfolding value_read
value_found before {rest} e =
    let found = digits_found (after_token (ascii "0x") before) rest e in
    let mark = token_found (ascii "0x") before found.2 in
    (mark.0, ascii "0x" ++ found.0, found.1, mark.1)

-- blanks, and perhaps a comment, end a line
comment_taken : (blanks : Blanks) (comment : List ℕ) → is_comment_or_none comment ≡ true → script_line_ends (blanks.bytes ++ comment) ≡ true
unfolding after_blanks is_blank
comment_taken blanks [] h = rw (blanks_passed blanks.bytes [] blanks.blank)
comment_taken blanks (byte ∷ bytes) h = rw (eqb-true byte 35 h, blanks_passed blanks.bytes (35 ∷ bytes) blanks.blank)

-- and where a line ended after its call they stood
end_found : (before : Option (List ℕ)) (call : RegisterWrite) (calls : List RegisterWrite) → call_if_ended before call ≡ some calls
    → (blanks : Blanks) × (comment : List ℕ) × (is_comment_or_none comment ≡ true) × (before ≡ some (blanks.bytes ++ comment)) × (calls ≡ call ∷ [])
unfolding call_if_ended
end_found none call calls e = zero_not_one (cc)
end_found (some text) call calls e =
    let k = tested (script_line_ends text) e in
    let found = blanks_found text in
    (found.0, after_blanks text, k.0, cc, cc)

-- a line with a call is taken: stage by stage from its start
call_taken : (line : List ℕ) (call : RegisterWrite) → CallLine line call → script_line_read line ≡ some (call ∷ [])
unfolding script_line_read call_read call_if_ended after_blanks is_blank digit_value
call_taken line call c =
    let at_end = c.after_closing.bytes ++ c.comment in
    let atClosing = ascii ")" ++ at_end in
    let atValue = c.value ++ (c.after_value.bytes ++ atClosing) in
    let atComma = ascii "," ++ (c.after_comma.bytes ++ atValue) in
    let atOffset = c.offset ++ (c.after_offset.bytes ++ atComma) in
    let atOpening = ascii "(" ++ (c.after_opening.bytes ++ atOffset) in
    let atWord = ascii "WriteI2C" ++ (c.after_name.bytes ++ atOpening) in
    rw (
      c.shape,
      blanks_passed c.at_start.bytes atWord c.at_start.blank,
      token_taken c.at_start (ascii "WriteI2C") (c.after_name.bytes ++ atOpening) refl,
      token_taken c.after_name (ascii "(") (c.after_opening.bytes ++ atOffset) refl,
      value_taken c.after_opening (c.after_offset.bytes ++ atComma) c.offset_shape (no_digit c.after_offset.bytes atComma c.after_offset.blank refl),
      token_taken c.after_offset (ascii ",") (c.after_comma.bytes ++ atValue) refl,
      value_taken c.after_comma (c.after_value.bytes ++ atClosing) c.value_shape (no_digit c.after_value.bytes atClosing c.after_value.blank refl),
      token_taken c.after_value (ascii ")") at_end refl,
      comment_taken c.after_closing c.comment c.commented,
    )

-- and where a call was read a line with a call stood: stage by stage from its end
call_found : (line : List ℕ) (calls : List RegisterWrite) → call_read line ≡ some calls → IsScriptLine line calls
unfolding call_read
call_found line calls e =
    let end = end_found _ _ calls e in
    let closing = token_found (ascii ")") _ end.3 in
    let value = value_found _ closing.1 in
    let comma = token_found (ascii ",") _ value.3 in
    let offset = value_found _ comma.1 in
    let opening = token_found (ascii "(") _ offset.3 in
    let word = token_found (ascii "WriteI2C") _ opening.1 in
    rw end.4
    (called
    (record {
      at_start = word.0;
      after_name = opening.0;
      after_opening = offset.0;
      offset = offset.1;
      offset_shape = offset.2;
      after_offset = comma.0;
      after_comma = value.0;
      value = value.1;
      value_shape = value.2;
      after_value = closing.0;
      after_closing = end.0;
      comment = end.1;
      commented = end.2;
      shape = some-injective _ _ word.1;
    }))

-- a line of either kind
line_taken : {line : List ℕ} {calls : List RegisterWrite} → IsScriptLine line calls → script_line_read line ≡ some calls
unfolding script_line_read
line_taken (blank b) = rw (b.shape, comment_taken b.blanks b.comment b.commented)
line_taken (called c) = call_taken _ _ c

line_found : (line : List ℕ) (calls : List RegisterWrite) → script_line_read line ≡ some calls → IsScriptLine line calls
unfolding script_line_read
line_found line calls e = go (script_line_ends line) refl
  where
    go : (b : Bool) → script_line_ends line ≡ b → IsScriptLine line calls
    go true p =
        let found = blanks_found line in
        let left = rw p at e in
        let none : calls ≡ [] = cc in
        rw none (blank (record { blanks = found.0; comment = after_blanks line; commented = p; shape = found.1 }))
    go false p = call_found line calls (rw p at e)

pub lines_taken : (line : List ℕ) (calls : List RegisterWrite) → ScriptLinesTaken line calls
lines_taken line calls = record { every = line_taken; only = line_found line calls }
