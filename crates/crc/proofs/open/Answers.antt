-- `crc::open` meets its contract.
use mathlib.Core.Path.{refl}
use native.Mathlib.Omega.{arith}
use Rattle.crc.specs.Checksum.{crc_from}
use Rattle.crc.proofs.Words.{word_next}
use Rattle.crc.proofs.open.Goals as goal

pub returns : goal.returns
unfolding crc_from
returns c =
    record {
      within = omega arith;
      right =
          word_next _ _ 24 c.word-4.ensures
          (word_next _ _ 16 c.word-3.ensures
          (word_next _ _ 8 c.word-2.ensures (word_next _ _ 0 c.word.ensures refl)));
    }
