-- The text of calls is a script of those calls.
-- Assumes nothing.
use mathlib.Core.Path.{◌≡◌, refl}
use mathlib.Core.Bool.{false, not, ◌&&◌}
use mathlib.Core.List.{List, [], ◌∷◌, ◌++◌}
use Prim.Native.Nat.{ℕ, ◌/◌, ◌%◌, ◌<◌}
use native.Mathlib.Omega.{arith}
use borrow.Author.Tests.{eqb-true, not-true}
use lib.Dec.{eqb}
use Rattle.laws.specs.Texts.{ascii}
use Rattle.laws.proofs.Bools.{both}
use Rattle.laws.proofs.Tables.{all_below, true_below}
use Rattle.buffers.specs.Numerals.{lowercase_digit, lowercase_byte}
use Rattle.registers.specs.Bursts.{RegisterWrite}
use Rattle.registers.proofs.ByteWrites.{AreByteWrites}
use Rattle.calls.specs.Grammar.{Blanks, digit_value, ValueText, two_digits, called}
use Rattle.script.specs.Grammar.{Script, no_lines, more_lines}
use Rattle.listing.specs.Listing.{call_text, calls_text}

-- a digit has its value, and is no line feed
digit_back : (digit : ℕ) → digit < 16 → (digit_value (lowercase_digit digit) ≡ digit) × (eqb (lowercase_digit digit) 10 ≡ false)
unfolding digit_value lowercase_digit all_below
digit_back digit h =
    let value = digit_value (lowercase_digit digit) in
    let feed = eqb (lowercase_digit digit) 10 in
    let tests = both (eqb value digit) (not feed) (true_below (λ d. eqb (digit_value (lowercase_digit d)) d && not (eqb (lowercase_digit d) 10)) 16 tt digit h) in
    (eqb-true value digit tests.0, not-true feed tests.1)

-- two digits have the value of their byte
byte_back : (byte : ℕ) → byte < 256 → ValueText (ascii "0x" ++ lowercase_byte byte) byte
unfolding lowercase_byte
byte_back byte h =
    let high = (digit_back (byte / 16) (omega arith)).0 in
    let low = (digit_back (byte % 16) (omega arith)).0 in
    two_digits (lowercase_digit (byte / 16)) (lowercase_digit (byte % 16)) (omega arith) (omega arith) refl (omega arith)

-- a call's line, without its line feed
abbrev line : RegisterWrite → List ℕ
line call = ascii "WriteI2C(" ++ (ascii "0x" ++ lowercase_byte call.offset ++ (ascii "," ++ (ascii "0x" ++ lowercase_byte call.value ++ ascii ")")))

-- so each call's line is one of the grammar
pub script_of : (calls : List RegisterWrite) → AreByteWrites calls → Script (calls_text calls) calls
unfolding calls_text call_text lowercase_byte
script_of [] small = no_lines
script_of (call ∷ calls) small =
    more_lines (line call) (calls_text calls) (call ∷ []) calls
    (called
    (record {
      at_start = none;
      after_name = none;
      after_opening = none;
      offset = ascii "0x" ++ lowercase_byte call.offset;
      offset_shape = byte_back call.offset small.0;
      after_offset = none;
      after_comma = none;
      value = ascii "0x" ++ lowercase_byte call.value;
      value_shape = byte_back call.value small.1;
      after_value = none;
      after_closing = none;
      comment = [];
      commented = refl;
      shape = refl;
    }))
    (rw (digit (call.offset / 16) (omega arith), digit (call.offset % 16) (omega arith), digit (call.value / 16) (omega arith), digit (call.value % 16) (omega arith)))
    (omega arith)
    (script_of calls small.2)
  where
    none : Blanks
    none = record { bytes = []; blank = refl }

    digit : (digit : ℕ) → digit < 16 → eqb (lowercase_digit digit) 10 ≡ false
    digit d h = (digit_back d h).1
