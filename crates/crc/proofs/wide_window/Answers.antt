-- `crc::wide_window` meets its contract. The loop's invariant: the first i words stand for 8 * i bytes.
use mathlib.Core.Path.{◌≡◌, refl, ap, ◌∙◌}
use Prim.Native.Nat.{ℕ, ◌+◌, ◌*◌}
use native.Mathlib.Omega.{arith}
use lib.ListN.{take, length-set}
use Rattle.crc.specs.Checksum.{crc_from}
use Rattle.crc.specs.WideRegister.{after_words}
use Rattle.crc.proofs.Words.{word_next}
use Rattle.crc.proofs.WideWindows.{word_put, register_added}
use Rattle.crc.proofs.wide_window.Goals as goal

pub loop-i-init : goal.loop-i-init
unfolding after_words crc_from
loop-i-init c = ((omega arith, refl), refl)

pub loop-i-preserved : goal.loop-i-preserved
loop-i-preserved c =
    let a = c.args in
    let count : 8 * c.loop-i.i + 8 ≡ 8 * (c.loop-i.i + 1) = omega arith in (
      (omega arith, simp length-set c.loop-i.invariant.0.1),
      word_put c.loop-i.i c.loop-i.window a.crc c.wide_word.result (omega arith)
          ∙ word_next a.crc a.bytes.now (8 * c.loop-i.i) c.wide_word.ensures c.loop-i.invariant.1
          ∙ ap (λ (n : ℕ). crc_from a.crc (take n a.bytes.now)) count,
    )

pub returns : goal.returns
returns c =
    let all : c.loop-i.i ≡ 32 = omega arith in
    register_added c.loop-i.window c.args.crc (omega arith) ∙ (rw all at c.loop-i.invariant.1)
