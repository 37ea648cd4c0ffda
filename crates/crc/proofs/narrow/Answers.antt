-- `crc::narrow` meets its contract. The loop's invariant: the window stands for the first i words.
use mathlib.Core.Path.{sym, ap, ◌∙◌}
use Prim.Native.Nat.{ℕ}
use native.Mathlib.Numerals.{add-one}
use native.Mathlib.Omega.{arith}
use lib.ListN.{take, get_or}
use Rattle.crc.specs.WideRegister.{after_word, after_words}
use Rattle.crc.proofs.WideWindows.{word_last, first_four_lem}
use Rattle.crc.proofs.narrow.Goals as goal

pub loop-i-init : goal.loop-i-init
loop-i-init c = (omega arith, first_four_lem c.args.window.now (omega arith))

pub loop-i-preserved : goal.loop-i-preserved
loop-i-preserved c =
    let w = c.args.window.now in (
      omega arith,
      c.slide-short.ensures ∙ ap (λ (t : ℕ). after_word t (get_or w c.loop-i.i 0)) c.loop-i.invariant.1
          ∙ sym (ap (λ (t : ℕ). after_words 0 (take t w)) (add-one c.loop-i.i) ∙ word_last c.loop-i.i w 0 (omega arith)),
    )
