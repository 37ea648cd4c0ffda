-- `crc::feed_blocks` meets its contract. The loop's invariant: the window stands for the first i bytes.
use mathlib.Core.Path.{refl, ap, ◌∙◌}
use Prim.Native.Nat.{ℕ}
use native.Mathlib.Omega.{arith}
use Rattle.crc.specs.Checksum.{crc_from}
use Rattle.crc.specs.WideRegister.{after_word}
use Rattle.crc.proofs.Words.{two_words_next}
use Rattle.crc.proofs.feed_blocks.Goals as goal

pub returns-then-bytes-lt32 : goal.returns-then-bytes-lt32
unfolding crc_from
returns-then-bytes-lt32 c = record { within = omega arith; right = refl }

pub loop-i-preserved : goal.loop-i-preserved
loop-i-preserved c =
    let l = c.loop-i in
    let low = c.word-low in
    let high = c.word-high in
    record {
      within = omega arith;
      right =
          c.slide-window.ensures ∙ ap (λ (t : ℕ). after_word t high.result) c.slide.ensures
          ∙ two_words_next _ _ l.i low.ensures high.ensures l.invariant.right;
    }
