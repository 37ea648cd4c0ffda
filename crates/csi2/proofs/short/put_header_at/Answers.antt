-- `csi2::short::put_header_at` meets its contract: the part from the place on is lent, and is back.
use Rattle.laws.proofs.Buffers.{lent_written}
use Rattle.csi2.specs.Packets.{header_bytes}
use Rattle.csi2.proofs.short.put_header_at.Goals as goal

pub returns : goal.returns
unfolding header_bytes
returns c = lent_written _ _ _ c.args.place c.requires c.put_header.ensures
