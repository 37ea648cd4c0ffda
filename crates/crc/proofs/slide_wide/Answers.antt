-- `crc::slide_wide` meets its contract. The loop's invariant: the window at i stands for 8 * i bytes more.
use mathlib.Core.Path.{◌≡◌, ap, ◌∙◌}
use Prim.Native.Nat.{ℕ, ◌+◌, ◌*◌, ◌^◌, ◌<◌}
use native.Mathlib.Omega.{arith}
use lib.ListN.{take, get_or, set, length-set}
use Rattle.crc.specs.Checksum.{crc_from}
use Rattle.crc.proofs.Words.{word_next}
use Rattle.crc.proofs.WideWindows.{slid_wide}
use Rattle.crc.proofs.slide_wide.Goals as goal

pub loop-i-preserved : goal.loop-i-preserved
loop-i-preserved c =
    let a = c.args in
    let i = c.loop-i.i in
    let x = c.wide_word in
    let fits : get_or (set c.loop-i.window (i + 32) x.result) i 0 < 2 ^ 64 = omega (arith, c.slice_known-in-loop-i-1.given i) in
    let count : a.at + 8 * i + 8 ≡ a.at + 8 * (i + 1) = omega arith in (
      (omega arith, simp length-set c.loop-i.invariant.0.1),
      λ crc e.
          slid_wide c.loop-i.window i x.result (omega arith) fits
          ∙ word_next crc a.bytes.now (a.at + 8 * i) x.ensures (c.loop-i.invariant.1 crc e)
          ∙ ap (λ (n : ℕ). crc_from crc (take n a.bytes.now)) count,
    )
