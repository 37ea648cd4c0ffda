-- The register file: reset, a write and a read (document 01, "The register file"). A burst: `Bursts`.
-- Assumes nothing.
use Rattle.std.specs.Prelude.{Bool, cond, List, ℕ, zero, suc, ◌+◌, ◌*◌, ◌/◌, ◌%◌, eqb, get_or, set}
use Rattle.laws.specs.Bits.{bit}
use Rattle.laws.specs.MaskedWrites.{masked}
use Rattle.laws.specs.Tables.{tabulate}
use Rattle.registers.specs.declared.RegisterFile.{RegisterFile}
use Rattle.registers.specs.declared.PageAccess.{PageAccess}
use Rattle.registers.specs.declared.PageAccess.TheVariants.{Selection, Port}
use Rattle.registers.specs.RegisterMap.{reset_of, mask_of, per_port, FPD3_PORT_SEL}

-- the shared register at an offset
abbrev pub shared_at : RegisterFile → ℕ → ℕ
shared_at file offset = get_or file.shared offset 0

-- the register of a port at an offset: "four pages of 256 registers, one page a port"
abbrev pub page_at : List ℕ → ℕ → ℕ → ℕ
page_at pages port offset = get_or pages (256 * port + offset) 0

-- the reset value of the register at an index of the pages
unfoldable pub page_reset_at : ℕ → ℕ
page_reset_at index = reset_of (index / 256) (index % 256)

-- every register at its reset value
unfoldable pub reset_file : RegisterFile
reset_file = record { shared = tabulate (reset_of 0) 256; pages = tabulate page_reset_at 1024 }

-- "In 0x4C, bits 3 to 0 tick the ports to be written, bits 5 and 4 name the port to be read." (RX_WRITE_PORT_3 to 0,
-- RX_READ_PORT)
abbrev pub selection : RegisterFile → ℕ
selection file = shared_at file FPD3_PORT_SEL

abbrev pub read_port : RegisterFile → ℕ
read_port file = selection file / 16 % 4

-- the ports that a write to a per-port offset goes to: those that the selection ticks, or the one given port
abbrev pub writes_port : PageAccess → ℕ → ℕ → Bool
writes_port Selection selected port = bit port selected
writes_port (Port own) selected port = eqb own port

-- the port whose registers are read: the one that the selection names, or the given one
abbrev pub port_read : PageAccess → RegisterFile → ℕ
port_read Selection file = read_port file
port_read (Port own) file = own

-- "Writing a shared offset takes the masked bits from the value and keeps the rest."
unfoldable pub write_shared : RegisterFile → ℕ → ℕ → RegisterFile
write_shared file offset value =
    record {
      shared = set file.shared offset (masked (mask_of offset) (shared_at file offset) value);
      pages = file.pages;
    }

-- the same for the register of one port
unfoldable pub write_page : RegisterFile → ℕ → ℕ → ℕ → RegisterFile
write_page file port offset value =
    record {
      shared = file.shared;
      pages = set file.pages (256 * port + offset) (masked (mask_of offset) (page_at file.pages port offset) value);
    }

-- "Writing a per-port offset does so in each ticked port; with none ticked nothing changes." The ports below n, rising.
unfoldable pub write_ports : ℕ → PageAccess → RegisterFile → ℕ → ℕ → RegisterFile
write_ports zero access file offset value = file
write_ports (suc port) access file offset value =
    let before = write_ports port access file offset value in
    cond (writes_port access (selection file) port) (write_page before port offset value) before

unfoldable pub write_register : PageAccess → RegisterFile → ℕ → ℕ → RegisterFile
write_register access file offset value =
    cond (per_port offset) (write_ports 4 access file offset value) (write_shared file offset value)

-- "Reading a per-port offset shows the read port's register. Reading changes nothing." (Of a port above 3 there is no
-- register: 0.)
unfoldable pub read_register : PageAccess → RegisterFile → ℕ → ℕ
read_register access file offset =
    cond (per_port offset) (page_at file.pages (port_read access file) offset) (shared_at file offset)
