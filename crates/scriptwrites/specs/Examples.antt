-- Examples: the numbers of calls between comments and blank lines, and a refusal.
-- Assumes nothing.
use Rattle.std.specs.Prelude.{◌≡◌, [], ◌∷◌}
use Rattle.laws.specs.Reply.{refused_at, given}
use Rattle.laws.specs.Texts.{ascii}
use Rattle.scriptwrites.specs.NumberedCalls.{numbered_calls}

-- every line counts, also a comment and a blank one
abbrev pub EveryLineCounts : Type 0
EveryLineCounts =
    numbered_calls (ascii "# lane 1\nWriteI2C(0x4C, 0x12) # port 1\n\nWriteI2C(0x5C, 0x62)\n")
    ≡ given
    (record { number = 2; offset = 0x4C; value = 0x12 } ∷ record { number = 4; offset = 0x5C; value = 0x62 } ∷ [])

-- "14, another shape", with the line's number
abbrev pub ThirdLineRefused : Type 0
ThirdLineRefused = numbered_calls (ascii "WriteI2C(0x4C, 0x12)\n\nWriteI2C(0x5C 0x62)\n") ≡ refused_at 14 3
