-- `crc::wide_word` meets its contract. The loop's invariant: the word holds the first i bytes.
use Prim.Native.Nat.{◌+◌, ◌<◌}
use native.Mathlib.Numerals.{add-one}
use native.Mathlib.Omega.{arith}
use lib.ListN.{get_or}
use Rattle.crc.proofs.Words.{holds_none, holds_last}
use Rattle.crc.proofs.wide_word.Goals as goal

pub loop-i-init : goal.loop-i-init
loop-i-init c = (omega arith, holds_none _ _)

pub loop-i-preserved : goal.loop-i-preserved
loop-i-preserved c =
    let a = c.args in
    let byte : get_or a.bytes.now (a.at + c.loop-i.i) 0 < 256 = omega (arith, c.shared_slice_known-1.given (a.at + c.loop-i.i)) in
    (omega arith, rw add-one (holds_last _ a.at c.loop-i.i c.loop-i.x (omega arith) (omega arith) byte c.loop-i.invariant.1))
