-- The formats of a frame, 10 or 12 bits.
-- Assumes nothing.
use Rattle.std.specs.Prelude.{cond, ℕ, eqb, Option, Some, None}
use Rattle.laws.specs.Reply.{Reply, refused, given}
use Rattle.formats.specs.declared.Format.{Format}
use Rattle.formats.specs.declared.Format.TheVariants.{Raw10, Raw12}

-- Document 01, refusal 3: "format neither 10 nor 12"
unfoldable pub format_of : ℕ → Reply Format
format_of bits = cond (eqb bits 10) (given Raw10) (cond (eqb bits 12) (given Raw12) (refused 3))

-- the paper's number where there is no such format
abbrev pub format_reply : Option Format → Reply Format
format_reply None = refused 3
format_reply (Some format) = given format
