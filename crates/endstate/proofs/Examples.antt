-- The examples, computed.
-- Assumes nothing.
use mathlib.Core.Path.{refl}
use Rattle.laws.specs.Bits.{bit}
use Rattle.laws.specs.MaskedWrites.{masked}
use Rattle.laws.specs.Tables.{tabulate_from, tabulate}
use Rattle.registers.specs.RegisterMap.{rows, row_in, reset_of, mask_of, per_port}
use Rattle.registers.specs.RegisterFiles.{page_reset_at, reset_file, write_shared, write_page, write_ports, write_register}
use Rattle.hub.specs.Hubs.{hub_with}
use Rattle.hub.specs.Routes.{port_route, route_of}
use Rattle.translation.specs.Translation.{alias_matches, target_from, on_port, receivers, addressee_of, who_hears_write}
use Rattle.ports.specs.PortMasks.{port_mask, several_ports}
use Rattle.origins.specs.Origins.{reaches}
use Rattle.origins.specs.KeptOrigins.{kept_number, origins_after, write_numbered, write_numbered_each, start_with}
use Rattle.clashes.specs.Channels.{is_forwarded, leaves_on}
use Rattle.clashes.specs.Addresses.{any_behind, address_reaches, any_below}
use Rattle.endstate.specs.RisingLines.{in_place, with_line, rising_lines, all_are, one_line}
use Rattle.endstate.specs.Findings.{shared_by}
use Rattle.endstate.specs.Channels.{port_numbers, same_channel}
use Rattle.endstate.specs.Addresses.{register_origin, device_origins, devices_origins, alias_origins, address_lines}
use Rattle.endstate.specs.Addresses.{same_address}
use Rattle.endstate.specs.Unset.{was_reached, another_reached, not_set_up}
use Rattle.endstate.specs.Examples.{ChannelExamples, AddressExamples, UnsetExamples}

pub channel_examples : ChannelExamples
unfolding bit masked tabulate_from tabulate rows row_in reset_of mask_of per_port
    page_reset_at reset_file write_shared write_page write_ports write_register hub_with port_route route_of
    port_mask several_ports reaches kept_number origins_after write_numbered write_numbered_each start_with
    leaves_on in_place with_line rising_lines all_are one_line shared_by port_numbers same_channel
channel_examples =
    record {
      two_lines = refl;
      one_line = refl;
      start_value = refl;
      interleaved = refl;
      other_output = refl;
      output0 = refl;
      output1 = refl;
    }

pub address_examples : AddressExamples
unfolding bit masked tabulate_from tabulate rows row_in reset_of mask_of per_port
    page_reset_at reset_file write_shared write_page write_ports write_register hub_with
    alias_matches target_from on_port receivers addressee_of who_hears_write
    port_mask several_ports reaches kept_number origins_after write_numbered write_numbered_each start_with
    any_behind address_reaches in_place with_line rising_lines all_are one_line shared_by
    register_origin device_origins devices_origins alias_origins address_lines same_address
address_examples = record { two_lines = refl; one_line = refl; one_port_alone = refl; device_lines = refl }

pub unset_examples : UnsetExamples
unfolding bit masked tabulate_from tabulate rows row_in reset_of mask_of per_port
    page_reset_at reset_file write_shared write_page write_ports write_register hub_with port_route route_of
    reaches kept_number origins_after write_numbered write_numbered_each start_with
    is_forwarded any_below was_reached another_reached not_set_up
unset_examples = record { forgotten = refl; set_up = refl; not_forwarded = refl; nobody = refl }
