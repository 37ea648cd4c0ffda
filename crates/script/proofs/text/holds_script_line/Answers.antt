-- `script::text::holds_script_line` meets its contract: each test of the definition.
use mathlib.Core.Path.{sym}
use borrow.Author.Tests.{le-ltb}
use lib.ListN.{length}
use Rattle.script.specs.Grammar.{longest_script_line}
use Rattle.script.proofs.FirstLineLaws.{length_found}
use Rattle.script.proofs.text.holds_script_line.Goals as goal

pub returns-else-bytes-gt-LONGEST_LINE : goal.returns-else-bytes-gt-LONGEST_LINE
returns-else-bytes-gt-LONGEST_LINE c =
    let bytes = c.args.bytes.now in
    rw (le-ltb longest_script_line (length bytes) c.if-bytes-gt-LONGEST_LINE.false, sym (length_found bytes c.line_length.result c.line_length.ensures))
