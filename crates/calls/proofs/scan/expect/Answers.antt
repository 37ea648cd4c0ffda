-- `calls::scan::expect` meets its contract: the word after the blanks.
use mathlib.Core.Path.{ap, ◌∙◌}
use Rattle.calls.specs.ScriptLines.{after_prefix, after_token}
use Rattle.calls.proofs.scan.expect.Goals as goal

pub returns : goal.returns
unfolding after_token
returns c = c.after_prefix.ensures ∙ ap (after_prefix _) c.after_blanks.ensures
