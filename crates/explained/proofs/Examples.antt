-- The examples, computed.
-- Assumes nothing.
use mathlib.Core.Path.{refl}
use Rattle.laws.specs.Bits.{bit}
use Rattle.laws.specs.MaskedWrites.{masked}
use Rattle.laws.specs.Tables.{tabulate_from, tabulate}
use Rattle.registers.specs.RegisterMap.{rows, row_in, reset_of, mask_of, per_port}
use Rattle.registers.specs.RegisterFiles.{page_reset_at, reset_file, write_shared, write_page, write_ports, write_register}
use Rattle.registers.specs.PowerUps.{boot_file, power_up_file}
use Rattle.origins.specs.NumberedWrites.{numbered_as}
use Rattle.origins.specs.Origins.{reaches}
use Rattle.origins.specs.KeptOrigins.{kept_number, origins_after, write_numbered, write_numbered_each, start_with}
use Rattle.calls.specs.Grammar.{is_blank, digit_value}
use Rattle.calls.specs.ScriptLines.{after_blanks, after_prefix, after_token, digits_read, value_read, call_if_ended}
use Rattle.calls.specs.ScriptLines.{call_read, script_line_read}
use Rattle.script.specs.Reading.{with_byte, parts_of, script_line_reply, rest_reply}
use Rattle.scriptwrites.specs.NumberedCalls.{numbered_from, numbered_calls}
use Rattle.explained.specs.Examples.{LinesNamed}

pub lines_named : LinesNamed
unfolding bit masked tabulate_from tabulate rows row_in reset_of mask_of per_port
    page_reset_at reset_file boot_file power_up_file write_shared write_page write_ports write_register
    numbered_as reaches kept_number origins_after write_numbered write_numbered_each start_with
    is_blank digit_value after_blanks after_prefix after_token digits_read value_read call_if_ended call_read script_line_read
    with_byte parts_of script_line_reply rest_reply numbered_from numbered_calls
lines_named =
    record {
      last_line = refl;
      last_value = refl;
      no_line = refl;
      start_value = refl;
      cleared = refl;
      shared_line = refl;
      writable_bits = refl;
    }
