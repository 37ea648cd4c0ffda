-- What a script line is: the grammar of L1, sentence by sentence.
-- Assumes nothing.
use Rattle.std.specs.Prelude.{◌≡◌, Bool, true, cond, ◌&&◌, ◌||◌, List, [], ◌∷◌, ◌++◌, ℕ, ◌+◌, ◌*◌, ◌-◌, ◌<◌, eqb, leb}
use Rattle.laws.specs.Texts.{ascii}
use Rattle.registers.specs.Bursts.{RegisterWrite}

-- every byte of a text passes a test
abbrev pub all : (ℕ → Bool) → List ℕ → Bool
all test [] = true
all test (byte ∷ bytes) = test byte && all test bytes

-- "spaces and tabs"
unfoldable pub is_blank : ℕ → Bool
is_blank byte = eqb byte 32 || eqb byte 9

-- Some spaces and tabs, perhaps none.
pub record Blanks : Type 0 where
  pub bytes : List ℕ
  pub blank : all is_blank bytes ≡ true

-- "hex digits in either case": the value of a digit 0 to 9 (from code 48), A to F (from code 65) or a to f
-- (from code 97); 16 for any other byte
unfoldable pub digit_value : ℕ → ℕ
digit_value byte =
    cond (leb 48 byte && leb byte 57) (byte - 48)
    (cond (leb 65 byte && leb byte 70) (byte - 55)
    (cond (leb 97 byte && leb byte 102) (byte - 87)
    16))

-- "each 0x and one or two hex digits in either case" (ours: only a small x)
pub data ValueText (text : List ℕ) (value : ℕ) : Type 0 where
  one_digit : (digit : ℕ) → digit_value digit < 16
      → text ≡ ascii "0x" ++ (digit ∷ []) → value ≡ digit_value digit → ValueText text value
  two_digits : (high low : ℕ) → digit_value high < 16 → digit_value low < 16
      → text ≡ ascii "0x" ++ (high ∷ low ∷ []) → value ≡ 16 * digit_value high + digit_value low → ValueText text value

-- "either with or without a comment after it", "comments from # to the line's end": nothing, or # (code 35) and
-- whatever follows (ours: a carriage return too)
abbrev pub is_comment_or_none : List ℕ → Bool
is_comment_or_none [] = true
is_comment_or_none (byte ∷ bytes) = eqb byte 35

-- "A line is blank (at most spaces and tabs)"
pub record BlankLine (line : List ℕ) : Type 0 where
  pub blanks : Blanks
  pub comment : List ℕ
  pub commented : is_comment_or_none comment ≡ true
  pub shape : line ≡ blanks.bytes ++ comment

-- "or one call": "a call has the word WriteI2C and two values [...] spaces and tabs allowed around each word, value,
-- bracket and comma"
pub record CallLine (line : List ℕ) (call : RegisterWrite) : Type 0 where
  pub at_start : Blanks
  pub after_name : Blanks
  pub after_opening : Blanks
  pub offset : List ℕ
  pub offset_shape : ValueText offset call.offset
  pub after_offset : Blanks
  pub after_comma : Blanks
  pub value : List ℕ
  pub value_shape : ValueText value call.value
  pub after_value : Blanks
  pub after_closing : Blanks
  pub comment : List ℕ
  pub commented : is_comment_or_none comment ≡ true
  pub shape : line
      ≡ at_start.bytes ++ (ascii "WriteI2C" ++ (after_name.bytes
      ++ (ascii "(" ++ (after_opening.bytes ++ (offset ++ (after_offset.bytes
      ++ (ascii "," ++ (after_comma.bytes ++ (value ++ (after_value.bytes
      ++ (ascii ")" ++ (after_closing.bytes ++ comment))))))))))))

-- a line of either kind, with its calls: none or one
pub data IsScriptLine (line : List ℕ) : List RegisterWrite → Type 0 where
  blank : BlankLine line → IsScriptLine line []
  called : {call : RegisterWrite} → CallLine line call → IsScriptLine line (call ∷ [])
