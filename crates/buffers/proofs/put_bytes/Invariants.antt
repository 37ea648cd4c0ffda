-- In the loop the bytes passed were put.
use lib.ListN.{take}
use Rattle.buffers.specs.Putting.{Puts}
use Rattle.buffers.proofs.put_bytes.Given as goal

abbrev pub invariant-loop-byte : goal.invariant-loop-byte
invariant-loop-byte l = Puts l.initial.out l.at (take l.byte-index l.bytes) l.out l.next
