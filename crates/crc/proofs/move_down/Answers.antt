-- `crc::move_down` meets its contract: the copied words stand at the start.
use mathlib.Core.Path.{◌∙◌, ap}
use native.Mathlib.Omega.{arith}
use lib.ListN.{take, drop, length-drop}
use Rattle.std.proofs.lemmas.List.Edits.{take-paste}
use Rattle.crc.proofs.move_down.Goals as goal

pub returns : goal.returns
returns c =
    let d = c.args.window.now in
    ap (take 32) c.copy_within.ensures.after ∙ take-paste d 0 (drop 32 d) 32 (omega arith) (let l = length-drop 32 d in omega arith)
