-- `script::text::next_script_line` meets its contract: the next line is the first of what is left.
use mathlib.Core.Path.{sym, ap}
use Prim.Native.Nat.{◌<◌}
use native.Mathlib.Omega.{arith}
use lib.ListN.{length, length-drop}
use Rattle.script.proofs.FirstLineLaws.{next_line_of}
use Rattle.script.proofs.text.next_script_line.Goals as goal

pub returns : goal.returns
returns c =
    let from = c.bytes_from in
    let some : 0 < length from.result.now = omega (arith, ap length from.ensures, length-drop c.args.at c.args.text.now, c.requires) in
    rw (sym from.ensures) (next_line_of from.result.now some c.first_script_line.result c.first_script_line.ensures)
