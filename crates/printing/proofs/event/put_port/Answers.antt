-- `printing::event::put_port` meets its contract: its pieces are put one after the other.
use Rattle.buffers.proofs.PutLaws.{put_then_lem}
use Rattle.printing.proofs.event.put_port.Goals as goal

pub returns : goal.returns
returns c =
    rw (← c.event_letter.ensures)
    (put_then_lem c.put_byte-space.ensures (put_then_lem c.put_byte-digits.ensures (put_then_lem c.put_decimal-next.ensures c.put_byte.ensures)))
