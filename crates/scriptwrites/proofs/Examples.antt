-- The examples, computed.
-- Assumes nothing.
use mathlib.Core.Path.{refl}
use Rattle.origins.specs.NumberedWrites.{numbered_as}
use Rattle.calls.specs.Grammar.{is_blank, digit_value}
use Rattle.calls.specs.ScriptLines.{after_blanks, after_prefix, after_token, digits_read, value_read, call_if_ended, call_read, script_line_read}
use Rattle.script.specs.Reading.{with_byte, parts_of, script_line_reply, rest_reply}
use Rattle.scriptwrites.specs.NumberedCalls.{numbered_from, numbered_calls}
use Rattle.scriptwrites.specs.Examples.{EveryLineCounts, ThirdLineRefused}

pub every_line_counts : EveryLineCounts
unfolding numbered_as is_blank digit_value after_blanks after_prefix after_token digits_read value_read call_if_ended call_read script_line_read with_byte parts_of script_line_reply rest_reply numbered_from numbered_calls
every_line_counts = refl

pub third_line_refused : ThirdLineRefused
unfolding numbered_as is_blank digit_value after_blanks after_prefix after_token digits_read value_read call_if_ended call_read script_line_read with_byte parts_of script_line_reply rest_reply numbered_from numbered_calls
third_line_refused = refl
