-- `crc::feed_words` meets its contract. The loop's invariant: the sum is that of the first i bytes.
use mathlib.Core.Path.{refl, ◌∙◌}
use native.Mathlib.Omega.{arith}
use Rattle.crc.specs.Checksum.{crc_from}
use Rattle.crc.proofs.Shifts.{crc_rest}
use Rattle.crc.proofs.Words.{word_next}
use Rattle.crc.proofs.feed_words.Goals as goal

pub loop-i-init : goal.loop-i-init
unfolding crc_from
loop-i-init c = record { within = omega arith; right = refl }

pub loop-i-preserved : goal.loop-i-preserved
loop-i-preserved c =
    let l = c.loop-i in
    record { within = omega arith; right = c.after_word-sum.ensures ∙ word_next _ _ l.i c.word.ensures l.invariant.right }

pub returns : goal.returns
returns c = c.feed_rest.ensures ∙ crc_rest c.loop-i.invariant
