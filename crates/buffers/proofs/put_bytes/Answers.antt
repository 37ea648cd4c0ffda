-- `buffers::put_bytes` meets its contract: in the loop the bytes passed were put.
use native.Mathlib.Numerals.{add-one}
use lib.Seq.{take-suc}
use Rattle.buffers.proofs.PutLaws.{put_nothing, put_then_lem}
use Rattle.buffers.proofs.put_bytes.Goals as goal

pub loop-byte-init : goal.loop-byte-init
loop-byte-init c = let x = c.args in put_nothing x.out.now x.at

pub loop-byte-preserved : goal.loop-byte-preserved
loop-byte-preserved c =
    let loop = c.loop-byte in
    let both = put_then_lem loop.invariant c.put_byte-next.ensures in
    rw (add-one loop.byte-index, take-suc c.args.bytes.now loop.byte-index 0 c.loop-byte-test.true) both
