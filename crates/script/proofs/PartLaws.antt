-- The parts of a text between its line feeds, and the calls from a part on.
-- Assumes nothing.
use mathlib.Core.Path.{◌≡◌, refl, ◌∙◌}
use mathlib.Core.Bool.{Bool, true, false, cond, not, and-eq-true_iff}
use mathlib.Core.List.{List, [], ◌∷◌, ◌++◌, append-nil}
use Prim.Native.Nat.{ℕ, suc}
use borrow.Author.Tests.{eqb-true, not-true}
use lib.Dec.{eqb}
use Rattle.script.specs.Grammar.{no_line_feed}
use Rattle.script.specs.Reading.{with_byte, parts_of, script_line_reply, rest_reply, script_line_then, is_last, calls_from}

-- A text and its parts.
pub data Parts : List ℕ → List (List ℕ) → Type 0 where
  last_part : (line : List ℕ) → no_line_feed line ≡ true → Parts line (line ∷ [])
  next_part : (line text : List ℕ) (parts : List (List ℕ)) → no_line_feed line ≡ true → Parts text parts → Parts (line ++ (10 ∷ text)) (line ∷ parts)

-- a byte more in front, which is no line feed
byte_more : (byte : ℕ) {text : List ℕ} {parts : List (List ℕ)} → eqb byte 10 ≡ false → Parts text parts → Parts (byte ∷ text) (with_byte byte parts)
unfolding with_byte
byte_more byte e (last_part line h) = last_part (byte ∷ line) (rw e h)
byte_more byte e (next_part line text parts h more) = next_part (byte ∷ line) text parts (rw e h) more

-- the parts of a text are its parts
pub parts_of_lem : (text : List ℕ) → Parts text (parts_of text)
unfolding parts_of
parts_of_lem [] = last_part [] refl
parts_of_lem (byte ∷ bytes) = go (eqb byte 10) refl (parts_of_lem bytes)
  where
    go : (b : Bool) → eqb byte 10 ≡ b → Parts bytes (parts_of bytes) → Parts (byte ∷ bytes) (cond b ([] ∷ parts_of bytes) (with_byte byte (parts_of bytes)))
    go true e more = rw (eqb-true byte 10 e) (next_part [] bytes (parts_of bytes) refl more)
    go false e more = byte_more byte e more

-- there is always one
pub some_part : {text : List ℕ} {parts : List (List ℕ)} → Parts text parts → is_last parts ≡ false
some_part (last_part line h) = refl
some_part (next_part line text parts h more) = refl

pub parts_some : (text : List ℕ) → is_last (parts_of text) ≡ false
parts_some text = some_part (parts_of_lem text)

-- a line's bytes, one by one in front of the first part
line_first : (line rest part : List ℕ) (parts : List (List ℕ)) → no_line_feed line ≡ true → parts_of rest ≡ part ∷ parts
    → parts_of (line ++ rest) ≡ (line ++ part) ∷ parts
unfolding parts_of with_byte
line_first [] rest part parts h e = e
line_first (byte ∷ line) rest part parts h e =
    let k = (and-eq-true_iff (not (eqb byte 10)) (no_line_feed line)).0 h in
    rw (not-true (eqb byte 10) k.0, line_first line rest part parts k.1 e)

-- a line that ends in a line feed is a part, and so is a text that has none
pub parts_next : (line rest : List ℕ) → no_line_feed line ≡ true → parts_of (line ++ (10 ∷ rest)) ≡ line ∷ parts_of rest
unfolding parts_of
parts_next line rest h = line_first line (10 ∷ rest) [] (parts_of rest) h refl ∙ rw append-nil

pub parts_last : (line : List ℕ) → no_line_feed line ≡ true → parts_of line ≡ line ∷ []
unfolding parts_of
parts_last line h = rw append-nil at (line_first line [] [] [] h refl)

-- the calls from a part on that another one follows
pub calls_more : (number : ℕ) (line : List ℕ) (parts : List (List ℕ)) → is_last parts ≡ false
    → calls_from number (line ∷ parts) ≡ script_line_then number (script_line_reply line) (calls_from (suc number) parts)
unfolding calls_from
calls_more number line parts e = rw e

pub calls_next : (number : ℕ) (line rest : List ℕ)
    → calls_from number (line ∷ parts_of rest) ≡ script_line_then number (script_line_reply line) (calls_from (suc number) (parts_of rest))
calls_next number line rest = calls_more number line (parts_of rest) (parts_some rest)

-- from the last part on
pub calls_last : (number : ℕ) (line : List ℕ) → calls_from number (line ∷ []) ≡ rest_reply number line
unfolding calls_from
calls_last number line = refl
