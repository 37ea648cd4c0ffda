-- Numbers as text, each character by its ASCII code. (Words: `ascii` of laws.)
-- Assumes nothing.
use Rattle.std.specs.Prelude.{cond, List, [], ◌∷◌, ◌++◌, ℕ, zero, suc, ◌+◌, ◌/◌, ◌%◌, ltb}

-- Document 01: "Hex has two digits a byte, capitals." A digit is 0 to 9 (from code 48) or A to F (from code 65).
unfoldable pub hex_digit : ℕ → ℕ
hex_digit digit = cond (ltb digit 10) (48 + digit) (55 + digit)

unfoldable pub hex_byte : ℕ → List ℕ
hex_byte byte = hex_digit (byte / 16) ∷ hex_digit (byte % 16) ∷ []

abbrev pub hex_bytes : List ℕ → List ℕ
hex_bytes [] = []
hex_bytes (byte ∷ bytes) = hex_byte byte ++ hex_bytes bytes

-- L1: "text is written as in that example", WriteI2C(0x4c,0x0f):
-- a digit is 0 to 9 (from code 48) or a to f (from code 97)
unfoldable pub lowercase_digit : ℕ → ℕ
lowercase_digit digit = cond (ltb digit 10) (48 + digit) (87 + digit)

unfoldable pub lowercase_byte : ℕ → List ℕ
lowercase_byte byte = lowercase_digit (byte / 16) ∷ lowercase_digit (byte % 16) ∷ []

-- the decimal digits of n, its last k at most: those of n / 10, if n has more than one, and the last
unfoldable pub decimal_from : ℕ → ℕ → List ℕ
decimal_from zero n = []
decimal_from (suc k) n = cond (ltb n 10) [] (decimal_from k (n / 10)) ++ ((48 + n % 10) ∷ [])

-- a number of 64 bits has at most 20 digits
abbrev pub decimal : ℕ → List ℕ
decimal n = decimal_from 20 n
