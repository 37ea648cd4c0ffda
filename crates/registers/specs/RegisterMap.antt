-- The register map: document 01, "The register file", the table of offsets row by row, with the names of the data sheet
-- (004, chapter 5.6).
-- Assumes nothing.
use Rattle.std.specs.Prelude.{◌≡◌, Bool, true, false, cond, ◌&&◌, List, [], ◌∷◌, ℕ, ◌+◌, ◌-◌, ◌*◌, ◌<◌, leb}
use Rattle.std.specs.Int.Bits.{bit_and}

-- A row: its offsets, first to last; the reset value, which may depend on the port; the mask of writable bits; and
-- whether the row is marked P.
pub record Row : Type 0 where
  pub first : ℕ
  pub last : ℕ
  pub reset : ℕ → ℕ
  pub mask : ℕ
  pub per_port : Bool

abbrev shared : ℕ → ℕ → ℕ → ℕ → Row
shared first last reset mask =
    record { first = first; last = last; reset = λ port. reset; mask = mask; per_port = false }

abbrev paged : ℕ → ℕ → (ℕ → ℕ) → ℕ → Row
paged first last reset mask = record { first = first; last = last; reset = reset; mask = mask; per_port = true }

unfoldable pub rows : List Row
rows =
    -- SCL_HIGH_TIME, SCL_LOW_TIME: document 01 has 7A, and 004 decides
    shared 0x0A 0x0B 0x79 0xFF ∷
    -- FS_HIGH_TIME_1, FS_HIGH_TIME_0, FS_LOW_TIME_1, FS_LOW_TIME_0
    shared 0x19 0x1C 0x00 0xFF ∷
    -- MAX_FRM_HI, MAX_FRM_LO
    shared 0x1D 0x1D 0x00 0xFF ∷
    shared 0x1E 0x1E 0x04 0xFF ∷
    -- CSI_PLL_CTL
    shared 0x1F 0x1F 0x02 0x03 ∷
    -- FWD_CTL1
    shared 0x20 0x20 0xF0 0xFF ∷
    -- FWD_CTL2
    shared 0x21 0x21 0x03 0xFF ∷
    -- FPD3_PORT_SEL
    shared 0x4C 0x4C 0x00 0x3F ∷
    -- BCC_CONFIG
    paged 0x58 0x58 (λ port. 0x18) 0xFF ∷
    -- SER_ID, SER_ALIAS_ID
    paged 0x5B 0x5C (λ port. 0x00) 0xFF ∷
    -- TARGET_ID_0 to TARGET_ID_7
    paged 0x5D 0x64 (λ port. 0x00) 0xFE ∷
    -- TARGET_ALIAS_0 to TARGET_ALIAS_7
    paged 0x65 0x6C (λ port. 0x00) 0xFF ∷
    -- RAW10_ID
    paged 0x70 0x70 (λ port. 0x2B + 64 * port) 0xFF ∷
    -- RAW12_ID
    paged 0x71 0x71 (λ port. 0x2C + 64 * port) 0xFF ∷
    -- BIST_CTL
    shared 0xB3 0xB3 0x08 0xCF ∷
    -- PAR_ERR_CTRL
    shared 0xB6 0xB6 0x18 0x38 ∷
    -- LINK_ERROR_COUNT
    shared 0xB9 0xB9 0x03 0x3F ∷
    -- FV_MIN_TIME
    shared 0xBC 0xBC 0x80 0xFF ∷
    -- GPIO_PD_CTL
    shared 0xBE 0xBE 0x00 0xFF ∷
    []

-- "an offset not listed is shared, reset 0 and mask 0"
unfoldable pub row_in : List Row → ℕ → Row
row_in [] offset = shared offset offset 0 0
row_in (r ∷ rs) offset = cond (leb r.first offset && leb offset r.last) r (row_in rs offset)

-- the reset value of an offset, on a port where it is per-port
unfoldable pub reset_of : ℕ → ℕ → ℕ
reset_of port offset = (row_in rows offset).reset port

-- the writable bits of an offset
unfoldable pub mask_of : ℕ → ℕ
mask_of offset = (row_in rows offset).mask

-- "Offsets marked P are per-port."
unfoldable pub per_port : ℕ → Bool
per_port offset = (row_in rows offset).per_port

-- "that no reset has a set bit outside its mask is proved once over it (the port's own two bits in 0x70 and 0x71
-- included)". The constant arrays of the source are this table, by the contracts of `map::reset_values::reset_values`
-- and `map::write_masks::write_masks`.
abbrev pub ResetsInsideMasks : Type 0
ResetsInsideMasks = (port offset : ℕ) → port < 4 → offset < 256 → bit_and (reset_of port offset) (255 - mask_of offset) ≡ 0

-- The offsets that other definitions mention, by their names in the data sheet.
abbrev pub SCL_HIGH_TIME : ℕ
SCL_HIGH_TIME = 0x0A

abbrev pub SCL_LOW_TIME : ℕ
SCL_LOW_TIME = 0x0B

abbrev pub MAX_FRM_HI : ℕ
MAX_FRM_HI = 0x1D

abbrev pub MAX_FRM_LO : ℕ
MAX_FRM_LO = 0x1E

abbrev pub FWD_CTL1 : ℕ
FWD_CTL1 = 0x20

abbrev pub FWD_CTL2 : ℕ
FWD_CTL2 = 0x21

abbrev pub FPD3_PORT_SEL : ℕ
FPD3_PORT_SEL = 0x4C

abbrev pub BCC_CONFIG : ℕ
BCC_CONFIG = 0x58

abbrev pub SER_ID : ℕ
SER_ID = 0x5B

abbrev pub SER_ALIAS_ID : ℕ
SER_ALIAS_ID = 0x5C

-- of the eight in a row the first
abbrev pub TARGET_ID_0 : ℕ
TARGET_ID_0 = 0x5D

abbrev pub TARGET_ALIAS_0 : ℕ
TARGET_ALIAS_0 = 0x65

abbrev pub RAW10_ID : ℕ
RAW10_ID = 0x70

abbrev pub RAW12_ID : ℕ
RAW12_ID = 0x71
