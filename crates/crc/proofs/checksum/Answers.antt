-- `crc::checksum` meets its contract.
use Rattle.crc.specs.Checksum.{crc_of}
use Rattle.crc.proofs.checksum.Goals as goal

pub returns : goal.returns
unfolding crc_of
returns c = c.feed.ensures
