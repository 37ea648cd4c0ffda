-- `printing::question::put_remote` meets its contract, by the cases of the device.
use Rattle.buffers.proofs.PutLaws.{put_then_lem}
use Rattle.printing.proofs.question.put_remote.Goals as goal

pub returns-in-Serializer : goal.returns-in-Serializer
returns-in-Serializer c = rw c.in-Serializer.is (search put_then_lem)
