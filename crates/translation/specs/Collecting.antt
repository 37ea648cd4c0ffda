-- How the source collects the ports that match, and tells whom an address is for: no rule of the papers.
-- Assumes nothing.
use Rattle.std.specs.Prelude.{Bool, true, false, List, [], Option, Some, None, Result, Ok, Err}
use Rattle.translation.specs.declared.PortDevice.{PortDevice}
use Rattle.translation.specs.declared.Devices.{Devices}
use Rattle.translation.specs.declared.WriteRefusal.{WriteRefusal}
use Rattle.translation.specs.Translation.{Addressee, OutOfRange, TheHub, Ports, devices_of}

abbrev pub collected : Option Devices → List PortDevice
collected None = []
collected (Some devices) = devices_of devices

abbrev pub addressee_reply : Result Bool WriteRefusal → Addressee
addressee_reply (Err refusal) = OutOfRange
addressee_reply (Ok true) = TheHub
addressee_reply (Ok false) = Ports
