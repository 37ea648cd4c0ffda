-- The cases that document 01 marks *, computed from the definitions.
-- Assumes nothing.
use mathlib.Core.Path.{refl}
use Rattle.laws.specs.Bits.{bit}
use Rattle.laws.specs.MaskedWrites.{masked}
use Rattle.laws.specs.Tables.{tabulate, tabulate_from}
use Rattle.registers.specs.RegisterMap.{rows, row_in, reset_of, mask_of, per_port}
use Rattle.registers.specs.RegisterFiles.{page_reset_at, reset_file, read_register}
use Rattle.registers.specs.RegisterFiles.{write_shared, write_page, write_ports, write_register}
use Rattle.registers.specs.PowerUps.{power_up_file}
use Rattle.registers.specs.Bursts.{burst_writes, write_each, write_burst}
use Rattle.hub.specs.Hubs.{hub_with, hub_burst, hub_read}
use Rattle.ecc.specs.CheckBytes.{ones_among, check_byte}
use Rattle.ecc.specs.HeaderCorrection.{is_right, correct_from, correction_of}
use Rattle.laws.specs.Groups.{groups}
use Rattle.packing.specs.Raw.{pack_group, payload_of}
use Rattle.reader.specs.Reader.{read_body, read_packet}
use Rattle.cases.specs.StarredCases.{StarredCases}

pub starred_cases : StarredCases
unfolding bit masked tabulate tabulate_from rows row_in reset_of mask_of per_port page_reset_at reset_file power_up_file
    write_shared
    write_page write_ports write_register burst_writes write_each write_burst read_register hub_with hub_burst hub_read
    ones_among check_byte is_right correct_from correction_of read_body read_packet groups pack_group payload_of
starred_cases =
    record {
      csi_speed = refl;
      parity_control = refl;
      port_selection = refl;
      no_port_changes = refl;
      still_reset = refl;
      zero_header = refl;
      start_header = refl;
      identifier_bit = refl;
      check_bit = refl;
      two_bits = refl;
      raw10 = refl;
      raw12 = refl;
    }
