-- `script::to_trace` meets its contract, by whether the address may be a hub's.
use mathlib.Core.Path.{refl, sym}
use Rattle.script.specs.Reading.{script_trace}
use Rattle.script.proofs.to_trace.Goals as goal

pub returns-then-not-is_hub_address : goal.returns-then-not-is_hub_address
unfolding script_trace
returns-then-not-is_hub_address c =
    let a = c.is_hub_address in
    rw (sym a.ensures, c.if-not-is_hub_address.true) (record { answer = refl; buffer = refl })

pub returns : goal.returns
unfolding script_trace
returns c =
    let a = c.is_hub_address in
    rw (sym a.ensures, c.if-not-is_hub_address.false) c.read_text.ensures
