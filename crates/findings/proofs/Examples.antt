-- The examples, computed.
-- Assumes nothing.
use Rattle.std.proofs.Common.{refl}
use Rattle.laws.specs.Bits.{bit}
use Rattle.laws.specs.MaskedWrites.{masked}
use Rattle.laws.specs.Tables.{tabulate_from, tabulate}
use Rattle.registers.specs.RegisterMap.{rows, row_in, reset_of, mask_of, per_port}
use Rattle.registers.specs.RegisterFiles.{page_reset_at, reset_file, write_shared, write_page, write_ports, write_register}
use Rattle.registers.specs.Bursts.{write_each}
use Rattle.ports.specs.PortMasks.{port_mask}
use Rattle.origins.specs.NumberedWrites.{unnumbered_writes}
use Rattle.origins.specs.Origins.{reaches, origin_of}
use Rattle.findings.specs.Blocks.{last_block, numbered_by_block}
use Rattle.findings.specs.AtWrites.{not_followed, no_port, bits_ignored, no_change, odd_alias}
use Rattle.findings.specs.Replaced.{from_earlier_block, replaced}
use Rattle.findings.specs.Examples.{Replacements, AtWrites}

pub replacements : Replacements
unfolding bit masked tabulate_from tabulate rows row_in reset_of mask_of per_port
    page_reset_at reset_file write_shared write_page write_ports write_register write_each
    unnumbered_writes reaches origin_of last_block numbered_by_block from_earlier_block replaced
replacements =
    record {
      other_block = refl;
      burst = refl;
      other_port = refl;
      value_stays = refl;
      repeated = refl;
      same_block = refl;
    }

pub at_writes : AtWrites
unfolding bit masked tabulate_from tabulate rows row_in reset_of mask_of per_port
    page_reset_at reset_file write_shared write_page write_ports write_register write_each
    unnumbered_writes reaches port_mask not_followed no_port bits_ignored no_change odd_alias
at_writes =
    record {
      unticked = refl;
      ticked = refl;
      csi_output = refl;
      selection_bit7 = refl;
      reached_none = refl;
      kept = refl;
      broadcast = refl;
      odd = refl;
      odd_unticked = refl;
      odd_target = refl;
    }
