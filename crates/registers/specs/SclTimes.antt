-- The SCL times of the register file.
-- Assumes nothing.
use Rattle.std.specs.Prelude.{ℕ, ◌+◌, ◌*◌}

-- Document 01: "SCL times in nanoseconds: [...] for n in 0x0A or 0x0B".
-- L2, in place of its n + 5: "The time is 40 × (n + 4) ns."
unfoldable pub scl_time : ℕ → ℕ
scl_time n = 40 * (n + 4)
