-- `listing::text::call_line` meets its contract: the four digits in their places.
use Rattle.std.proofs.Common.{◌≡◌, ◌/◌, ◌%◌, arith}
use Rattle.buffers.specs.Numerals.{lowercase_byte}
use Rattle.listing.specs.Listing.{call_text}
use Rattle.listing.proofs.text.call_line.Goals as goal

pub returns : goal.returns
unfolding lowercase_byte call_text
returns c =
    let x = c.args in
    let high : x.offset / 16 % 16 ≡ x.offset / 16 = omega arith in
    let higher : x.value / 16 % 16 ≡ x.value / 16 = omega arith in
    rw (
      c.lowercase_digit.ensures,
      c.lowercase_digit-2.ensures,
      c.lowercase_digit-3.ensures,
      c.lowercase_digit-4.ensures,
      high,
      higher,
    )
