-- The finding `replaced`.
-- Assumes nothing.
use Rattle.std.specs.Prelude.{◌≡◌, ℕ, ◌^◌, ◌<◌, Bool, true, cond, ◌&&◌, List, length, Option, None, Some}
use Rattle.registers.specs.declared.RegisterFile.{RegisterFile}
use Rattle.origins.specs.declared.NumberedWrite.{NumberedWrite}
use Rattle.origins.specs.Origins.{Register, port_register, after_each, origin_of, LastReaching, FileOfBytes}
use Rattle.origins.specs.KeptOrigins.{kept_number, number_of}
use Rattle.origins.specs.Effects.{changes}
use Rattle.findings.specs.declared.WritesSoFar.{WritesSoFar}
use Rattle.findings.specs.Blocks.{blocks_begun, numbered_by_block, is_earlier}
use Rattle.findings.specs.ByEffect.{changes_port}
use Rattle.findings.specs.WritesSoFar.{so_far, effect_now}

-- "the register's origin is a line of an earlier block": the block of the origin is the number that it has where the
-- writes have their blocks as numbers
unfoldable pub from_earlier_block : RegisterFile → List NumberedWrite → Register → Bool
from_earlier_block start before register =
    is_earlier (number_of (origin_of start (numbered_by_block 0 before) register)) (blocks_begun before)

-- "a write gives a register of a port another value than it had, and the register's origin is a line of an earlier
-- block": the number of the origin
unfoldable pub replaced : RegisterFile → List NumberedWrite → NumberedWrite → ℕ → Option ℕ
replaced start before w port =
    let register = port_register port w.offset in
    cond (changes (after_each start before) w.offset w.value register && from_earlier_block start before register)
    (Some (number_of (origin_of start before register)))
    None

-- The same without counting blocks: the write changes the register; the origin is the last of the writes before that
-- reached it; a block begins before the origin, and another between the origin and the write.
pub record Replaces (start : RegisterFile) (before : List NumberedWrite) (w : NumberedWrite) (port number : ℕ)
    : Type 0 where
  pub changed : changes (after_each start before) w.offset w.value (port_register port w.offset) ≡ true
  pub origin : NumberedWrite
  pub last : LastReaching start before (port_register port w.offset) origin
  pub in_block : 0 < blocks_begun last.earlier
  pub of_earlier : 0 < blocks_begun last.later
  pub named : origin.number ≡ number

pub record ReplacedMeans (start : RegisterFile) (before : List NumberedWrite) (w : NumberedWrite) (port : ℕ)
    : Type 0 where
  pub only : (number : ℕ) → replaced start before w port ≡ Some number → Replaces start before w port number
  pub every : (number : ℕ) → Replaces start before w port number → replaced start before w port ≡ Some number

abbrev pub EveryReplaced : Type 0
EveryReplaced =
    (start : RegisterFile) (before : List NumberedWrite) (w : NumberedWrite) (port : ℕ)
    → ReplacedMeans start before w port

-- How the code finds it: the blocks of the origins are kept as their numbers are.
unfoldable pub replaced_now : WritesSoFar → NumberedWrite → ℕ → Option ℕ
replaced_now before w port =
    let register = port_register port w.offset in
    cond (changes_port (effect_now before w) port
    && is_earlier (kept_number before.blocks register) before.block)
    (Some (kept_number before.numbers register))
    None

-- What the code says of a write is what the sentence says of it. (`FileOfBytes` holds of every value of the type
-- RegisterFile, an offset is a byte, and blocks are counted in 64 bits.)
abbrev pub ReplacedExact : Type 0
ReplacedExact =
    (start : RegisterFile) → FileOfBytes start → (before : List NumberedWrite) (w : NumberedWrite) (port : ℕ)
    → length before < 2 ^ 64 → w.offset < 256 → port < 4
    → replaced_now (so_far start before) w port ≡ replaced start before w port
