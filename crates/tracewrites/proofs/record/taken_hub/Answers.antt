-- `tracewrites::record::taken_hub` meets its contract: the hub's address, or refusal 2.
use Rattle.tracewrites.specs.RecordTurns.{taken_hub}
use mathlib.Core.Path.{sym}
use Rattle.tracewrites.proofs.record.taken_hub.Goals as goal

pub returns-then-is_hub_address : goal.returns-then-is_hub_address
unfolding taken_hub
returns-then-is_hub_address c = rw (sym c.is_hub_address.ensures, c.if-is_hub_address.true) c.passed_as.ensures

pub returns : goal.returns
unfolding taken_hub
returns c = rw (sym c.is_hub_address.ensures, c.if-is_hub_address.false) c.not_passed.ensures
