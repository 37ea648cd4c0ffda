-- The first line of bytes as the source finds it, what it comes to, and that this is the same whatever follows the bytes that hold it.
-- Assumes nothing.
use mathlib.Core.Path.{◌≡◌, refl, sym, ap, ◌∙◌}
use mathlib.Core.Bool.{Bool, true, false, cond, not, and-eq-true_iff}
use mathlib.Core.List.{List, [], ◌∷◌, ◌++◌}
use mathlib.Core.Option.{Option, none, some}
use Prim.Native.Nat.{ℕ, zero, suc, ◌+◌, ◌≤◌, ◌<◌}
use native.Mathlib.Numerals.{add-one}
use native.Mathlib.Omega.{arith}
use borrow.Author.Tests.{eqb-true, eq-eqb, ne_eqb, lt-ltb, le-ltb, ltb-true, ltb-false, not-true}
use lib.Dec.{eqb, ltb}
use lib.ListN.{length, get_or, take, drop, length-append}
use lib.Seq.{take-suc, take_all, take-append-le, split_at, length-take-le}
use Rattle.laws.specs.Reply.{Reply, refused, refused_at, refused_with, given, on_reply}
use Rattle.laws.proofs.Replies.{on_given, refused_given}
use Rattle.registers.specs.Bursts.{RegisterWrite}
use Rattle.std.specs.Prelude.{Option as Answer, Result, Ok, Err}
use Rattle.calls.specs.declared.Call.{Call}
use Rattle.calls.specs.declared.OtherShape.{OtherShape}
use Rattle.calls.specs.Grammar.{all, IsScriptLine, blank, called}
use Rattle.calls.specs.ScriptLines.{script_line_read, calls_of}
use Rattle.script.specs.declared.LineRefusal.{LineRefusal}
use Rattle.script.specs.declared.text.TakenLine.{TakenLine}
use Rattle.script.specs.Grammar.{no_line_feed, longest_script_line}
use Rattle.script.specs.Reading.{shape_reply, script_line_reply, rest_reply, joined_to, script_line_then, parts_of, calls_from}
use Rattle.script.specs.FirstLines.{script_line_length, holds_script_line, LineWithCalls, first_line_reply, taken_line_reply}
use Rattle.script.specs.PrivateContracts.{FirstScriptLine, NextScriptLineOf}
use Rattle.script.proofs.PartLaws.{parts_next, parts_last, calls_next, calls_last}
use Rattle.script.proofs.GrammarLaws.{given_line}

-- a test that every byte passes, with one byte more
pub all_more : (test : ℕ → Bool) (text : List ℕ) (place : ℕ) → place < length text → all test (take place text) ≡ true → test (get_or text place 0) ≡ true
    → all test (take (place + 1) text) ≡ true
all_more test text place h a b = rw (add-one place, take-suc text place 0 h) (one_more (take place text) a)
  where
    one_more : (l : List ℕ) → all test l ≡ true → all test (l ++ (get_or text place 0 ∷ [])) ≡ true
    one_more [] e = rw b
    one_more (x ∷ l) e = let k = (and-eq-true_iff (test x) (all test l)).0 e in rw k.0 (one_more l k.1)

-- the definition's length is that of the first line
pub first_found : (bytes : List ℕ) → FirstScriptLine bytes (script_line_length bytes)
unfolding script_line_length
first_found [] = record { within = omega arith; before = refl; ended = λ h. absurd (omega arith) }
first_found (byte ∷ bytes) = go (eqb byte 10) refl (first_found bytes)
  where
    go : (b : Bool) → eqb byte 10 ≡ b → FirstScriptLine bytes (script_line_length bytes)
        → FirstScriptLine (byte ∷ bytes) (cond b 0 (suc (script_line_length bytes)))
    go true e later = record { within = omega arith; before = refl; ended = λ h. eqb-true byte 10 e }
    go false e later =
        record { within = omega (arith, later.within); before = rw e later.before; ended = λ h. later.ended (omega arith) }

-- and no other length is
pub length_found : (bytes : List ℕ) (n : ℕ) → FirstScriptLine bytes n → n ≡ script_line_length bytes
unfolding script_line_length
length_found [] n first = omega (arith, first.within)
length_found (byte ∷ bytes) zero first = rw (eq-eqb byte 10 (first.ended (omega arith)))
length_found (byte ∷ bytes) (suc n) first =
    let tests = (and-eq-true_iff (not (eqb byte 10)) (no_line_feed (take n bytes))).0 first.before in
    let within = first.within in
    rw (not-true (eqb byte 10) tests.0)
    (ap suc (length_found bytes n (record { within = omega arith; before = tests.1; ended = λ h. first.ended (omega arith) })))

-- what so many bytes come to as a line that ends in a line feed, and as one that does not
abbrev pub ended_reply : ℕ → List ℕ → Reply LineWithCalls
ended_reply n bytes = on_reply (λ (calls : List RegisterWrite). record { count = n; calls = calls }) (script_line_reply (take n bytes))

abbrev pub unended_reply : ℕ → Reply LineWithCalls
unended_reply n = refused (cond (ltb longest_script_line n) 15 14)

-- the first line is either
pub either_line : (P : Reply LineWithCalls → Type 0) (bytes : List ℕ) (n : ℕ) → FirstScriptLine bytes n → (n < length bytes → P (ended_reply n bytes))
    → (length bytes ≤ n → P (unended_reply n)) → P (first_line_reply bytes)
unfolding first_line_reply
either_line P bytes n first ended unended = rw (sym (length_found bytes n first)) (go (ltb n (length bytes)) refl)
  where
    go : (b : Bool) → ltb n (length bytes) ≡ b → P (cond b (ended_reply n bytes) (unended_reply n))
    go true e = ended (ltb-true n (length bytes) e)
    go false e = unended (ltb-false n (length bytes) e)

module _ (bytes : List ℕ) (n : ℕ) (first : FirstScriptLine bytes n) where
  -- the line has so many bytes
  line_bytes : length (take n bytes) ≡ n
  line_bytes = length-take-le n bytes first.within

  -- a line that ends in a line feed is the first part, and one that has none is the last
  pub parts_ended : n < length bytes → parts_of bytes ≡ take n bytes ∷ parts_of (drop (n + 1) bytes)
  parts_ended h =
      let cut : bytes ≡ take n bytes ++ (10 ∷ drop (n + 1) bytes) =
      split_at bytes n 0 h ∙ ap (λ (b : ℕ). take n bytes ++ (b ∷ drop (suc n) bytes)) (first.ended h) ∙ rw (add-one n) in
      ap parts_of cut ∙ parts_next (take n bytes) (drop (n + 1) bytes) first.before

  pub parts_unended : length bytes ≤ n → parts_of bytes ≡ bytes ∷ []
  parts_unended h = parts_last bytes (rw (take_all n bytes h) at first.before)

  -- the rest of the text, which has no line feed, is refused
  pub rest_refused : 0 < length bytes → length bytes ≤ n → (number : ℕ) → rest_reply number bytes ≡ refused_at (cond (ltb longest_script_line n) 15 14) number
  unfolding rest_reply
  rest_refused byte h number =
      let w = first.within in
      let all : length bytes ≡ n = omega arith in
      rw (ne_eqb (length bytes) 0 (λ (z : length bytes ≡ 0). omega arith), all)

  -- a line that ends in a line feed comes to what it is, and what follows
  ended_line : n < length bytes → (number : ℕ)
      → calls_from number (parts_of bytes) ≡ script_line_then number (script_line_reply (take n bytes)) (calls_from (suc number) (parts_of (drop (n + 1) bytes)))
  ended_line h number = ap (calls_from number) (parts_ended h) ∙ calls_next number (take n bytes) (drop (n + 1) bytes)

  -- one that has none is refused
  unended_line : 0 < length bytes → length bytes ≤ n → (number : ℕ) → calls_from number (parts_of bytes) ≡ refused_at (cond (ltb longest_script_line n) 15 14) number
  unended_line byte h number = ap (calls_from number) (parts_unended h) ∙ calls_last number bytes ∙ rest_refused byte h number

  -- a line of over 200 bytes, whether it ends or not
  pub too_long : longest_script_line < n → first_line_reply bytes ≡ refused 15
  unfolding script_line_reply
  too_long k =
      either_line (λ r. r ≡ refused 15) bytes n first (λ h. rw (line_bytes, lt-ltb longest_script_line n k)) (λ h. rw (lt-ltb longest_script_line n k))

  module _ (short : n ≤ longest_script_line) where
    -- a line without its line feed
    pub no_line_feed_lem : length bytes ≤ n → first_line_reply bytes ≡ refused 14
    no_line_feed_lem all =
        either_line (λ r. r ≡ refused 14) bytes n first (λ h. absurd (omega arith)) (λ h. rw (le-ltb longest_script_line n short))

    -- a line by its shape
    pub line_shape : n < length bytes → (read : Result (Answer Call) OtherShape) → calls_of read ≡ script_line_read (take n bytes)
        → first_line_reply bytes ≡ on_reply (λ (calls : List RegisterWrite). record { count = n; calls = calls }) (shape_reply (calls_of read))
    unfolding script_line_reply
    line_shape more read e =
        either_line (λ r. r ≡ on_reply (λ (calls : List RegisterWrite). record { count = n; calls = calls }) (shape_reply (calls_of read))) bytes n first
        (λ h. rw (line_bytes, le-ltb longest_script_line n short, sym e)) (λ h. absurd (omega arith))

-- what the calls of a text come to by its first line
abbrev pub line_then : ℕ → List ℕ → Reply LineWithCalls → Reply (List RegisterWrite)
line_then number bytes (refused_with refusal detail) = refused_at refusal number
line_then number bytes (given line) = joined_to line.calls (calls_from (suc number) (parts_of (drop (line.count + 1) bytes)))

pub calls_first : (bytes : List ℕ) → 0 < length bytes → (number : ℕ) → calls_from number (parts_of bytes) ≡ line_then number bytes (first_line_reply bytes)
calls_first bytes byte number =
    let first = first_found bytes in
    either_line (λ r. calls_from number (parts_of bytes) ≡ line_then number bytes r) bytes n first
    (λ h. ended_line bytes n first h number ∙ shape (script_line_reply (take n bytes)))
    (λ h. unended_line bytes n first byte h number)
  where
    n : ℕ
    n = script_line_length bytes

    shape : (reply : Reply (List RegisterWrite)) → script_line_then number reply (calls_from (suc number) (parts_of (drop (n + 1) bytes)))
        ≡ line_then number bytes (on_reply (λ (calls : List RegisterWrite). record { count = n; calls = calls }) reply)
    shape (refused_with refusal detail) = refl
    shape (given here) = refl

-- a line that is taken ends inside the bytes, and has at most one call
pub first_given : (bytes : List ℕ) {line : LineWithCalls} → first_line_reply bytes ≡ given line → (line.count < length bytes) × (length line.calls ≤ 1)
first_given bytes {line} e =
    either_line (λ r. r ≡ given line → (line.count < length bytes) × (length line.calls ≤ 1)) bytes n (first_found bytes)
    (λ h k.
    let found = on_given (λ (calls : List RegisterWrite). record { count = n; calls = calls }) (script_line_reply (take n bytes)) (sym k) in
    (omega (arith, ap (λ (l : LineWithCalls). l.count) found.2), rw found.2 (few (given_line (take n bytes) found.0 found.1).0)))
    (λ h k. refused_given refl k) e
  where
    n : ℕ
    n = script_line_length bytes

    few : {bytes : List ℕ} {calls : List RegisterWrite} → IsScriptLine bytes calls → length calls ≤ 1
    few (blank b) = omega arith
    few (called c) = omega arith

-- the number of a refusal, and for none 1
abbrev number_or : Reply LineWithCalls → ℕ
number_or (refused_with number detail) = number
number_or (given line) = 1

-- no refusal has the number 0
pub not_zero : (bytes : List ℕ) {refusal : ℕ} {detail : Option ℕ} → first_line_reply bytes ≡ refused_with refusal detail → 1 ≤ refusal
unfolding script_line_reply
not_zero bytes e =
    let n = script_line_length bytes in
    rw e at
    (either_line (λ r. 1 ≤ number_or r) bytes n (first_found bytes)
    (λ h. shape (ltb longest_script_line (length (take n bytes))) (script_line_read (take n bytes))) (λ h. long (ltb longest_script_line n)))
  where
    long : (b : Bool) → 1 ≤ cond b 15 14
    long true = omega arith
    long false = omega arith

    shape : (b : Bool) (read : Option (List RegisterWrite))
        → 1 ≤ number_or (on_reply (λ (calls : List RegisterWrite). record { count = script_line_length bytes; calls = calls }) (cond b (refused 15) (shape_reply read)))
    shape true read = omega arith
    shape false none = omega arith
    shape false (some calls) = omega arith

-- what the first line comes to, for each case of the answer
pub next_line_of : (text : List ℕ) → 0 < length text → (next : Result TakenLine LineRefusal) → taken_line_reply next ≡ first_line_reply text
    → NextScriptLineOf text next
next_line_of text byte (Ok line) e =
    record { within = (first_given text (sym e)).0; calls = λ number. calls_first text byte number ∙ rw (sym e) }
next_line_of text byte (Err refusal) e = λ number. calls_first text byte number ∙ rw (sym e)

-- the length of the first line with more bytes after it
length_more : (bytes rest : List ℕ) → script_line_length bytes < length bytes → script_line_length (bytes ++ rest) ≡ script_line_length bytes
unfolding script_line_length
length_more [] rest h = absurd (omega arith)
length_more (byte ∷ bytes) rest h = go (eqb byte 10) h (length_more bytes rest)
  where
    go : (b : Bool) → cond b 0 (suc (script_line_length bytes)) < suc (length bytes)
        → (script_line_length bytes < length bytes → script_line_length (bytes ++ rest) ≡ script_line_length bytes)
        → cond b 0 (suc (script_line_length (bytes ++ rest))) ≡ cond b 0 (suc (script_line_length bytes))
    go true k later = refl
    go false k later = ap suc (later (omega arith))

length-least : (bytes rest : List ℕ) → script_line_length bytes ≤ script_line_length (bytes ++ rest)
unfolding script_line_length
length-least [] rest = omega arith
length-least (byte ∷ bytes) rest = go (eqb byte 10) (length-least bytes rest)
  where
    go : (b : Bool) → script_line_length bytes ≤ script_line_length (bytes ++ rest)
        → cond b 0 (suc (script_line_length bytes)) ≤ cond b 0 (suc (script_line_length (bytes ++ rest)))
    go true later = omega arith
    go false later = omega arith

-- bytes that hold it have a byte, and it comes to the same whatever follows them
pub holds_some : (bytes : List ℕ) → holds_script_line bytes ≡ true → 1 ≤ length bytes
holds_some bytes h = go (ltb longest_script_line (length bytes)) refl h
  where
    go : (b : Bool) → ltb longest_script_line (length bytes) ≡ b → cond b true (ltb (script_line_length bytes) (length bytes)) ≡ true → 1 ≤ length bytes
    go true e k = let over = ltb-true longest_script_line (length bytes) e in omega arith
    go false e k = let over = ltb-true (script_line_length bytes) (length bytes) k in omega arith

pub same_first : (bytes rest : List ℕ) → holds_script_line bytes ≡ true → first_line_reply (bytes ++ rest) ≡ first_line_reply bytes
same_first bytes rest holds =
    either_line (λ r. first_line_reply (bytes ++ rest) ≡ r) bytes n (first_found bytes) ended
    (λ all. over all (ltb longest_script_line (length bytes)) refl holds)
  where
    n : ℕ
    n = script_line_length bytes

    -- with its line feed it stays the same line
    ended : n < length bytes → first_line_reply (bytes ++ rest) ≡ ended_reply n bytes
    ended h =
        either_line (λ r. r ≡ ended_reply n bytes) (bytes ++ rest) n (rw (length_more bytes rest h) at (first_found (bytes ++ rest)))
        (λ more. rw (take-append-le n bytes rest (omega arith))) (λ none. absurd (omega (arith, length-append bytes rest)))

    -- without one it is over 200 bytes in any case
    over : length bytes ≤ n → (long : Bool) → ltb longest_script_line (length bytes) ≡ long → cond long true (ltb n (length bytes)) ≡ true
        → first_line_reply (bytes ++ rest) ≡ unended_reply n
    over all false e k = let h = ltb-true n (length bytes) k in absurd (omega arith)
    over all true e k =
        let h = ltb-true longest_script_line (length bytes) e in
        too_long (bytes ++ rest) (script_line_length (bytes ++ rest)) (first_found (bytes ++ rest)) (omega (arith, length-least bytes rest))
        ∙ rw (lt-ltb longest_script_line n (omega arith))
