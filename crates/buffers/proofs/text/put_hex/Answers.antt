-- `buffers::text::put_hex` meets its contract: two digits, one after the other.
use mathlib.Core.Path.{◌≡◌, sym, ap, ◌∙◌}
use Prim.Native.Nat.{◌/◌, ◌%◌}
use native.Mathlib.Omega.{arith}
use Rattle.buffers.specs.Numerals.{hex_digit, hex_byte}
use Rattle.buffers.proofs.PutLaws.{put_then_lem}
use Rattle.buffers.proofs.text.put_hex.Goals as goal

pub returns : goal.returns
unfolding hex_byte
returns c =
    let last = c.hex_digit-2 in
    let high = c.hex_digit in
    let byte = c.args.byte in
    let small : byte / 16 % 16 ≡ byte / 16 = omega arith in
    let both = put_then_lem c.put_byte-second.ensures c.put_byte.ensures in
    rw (sym (high.ensures ∙ ap hex_digit small), sym last.ensures) both
