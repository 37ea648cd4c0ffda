-- `csi2::header::put_little_endian` meets its contract: two stores, one after the other.
use Rattle.laws.proofs.Buffers.{written_sets}
use Rattle.csi2.specs.Packets.{little_endian}
use Rattle.csi2.proofs.header.put_little_endian.Goals as goal

pub returns : goal.returns
returns c = written_sets c.args.part.now 0 (little_endian c.args.n) c.requires
