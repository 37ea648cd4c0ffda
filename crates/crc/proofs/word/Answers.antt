-- `crc::word` meets its contract. The loop's invariant: the word holds the bytes from `i` on.
use mathlib.Core.Path.{◌≡◌, sym}
use Prim.Native.Nat.{suc, ◌+◌, ◌-◌, ◌<◌}
use native.Mathlib.Nat.{sub_self}
use native.Mathlib.Omega.{arith}
use lib.ListN.{get_or}
use Rattle.crc.specs.WideRegister.{Holds}
use Rattle.crc.proofs.Words.{holds_none, holds_more}
use Rattle.crc.proofs.word.Goals as goal

pub loop-i-init : goal.loop-i-init
loop-i-init c = (omega arith, rw sub_self (holds_none _ _))

pub loop-i-preserved : goal.loop-i-preserved
loop-i-preserved c =
    let a = c.args in
    let p = a.at + (c.loop-i.i - 1) in
    let above : suc p ≡ a.at + c.loop-i.i = omega arith in
    let count : suc (a.n - c.loop-i.i) ≡ a.n - (c.loop-i.i - 1) = omega arith in
    let byte : get_or a.bytes.now p 0 < 256 = omega (arith, c.shared_slice_known-1.given p) in
    let held : Holds a.bytes.now (suc p) (a.n - c.loop-i.i) c.loop-i.x = rw above c.loop-i.invariant.1 in
    (omega arith, rw (sym count) (holds_more _ p (a.n - c.loop-i.i) c.loop-i.x (omega arith) (omega arith) byte held))
