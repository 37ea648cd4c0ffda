-- `crc::feed` meets its contract.
use mathlib.Core.Path.{◌∙◌}
use Rattle.crc.proofs.Shifts.{crc_rest}
use Rattle.crc.proofs.feed.Goals as goal

pub returns : goal.returns
returns c = c.feed_words.ensures ∙ crc_rest c.feed_blocks-done.ensures
