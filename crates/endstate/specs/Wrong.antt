-- How many findings in the state at the end are wrong: `same-channel`, `same-address` and `not-set-up`.
-- Assumes nothing.
use Rattle.std.specs.Prelude.{◌≡◌, Bool, true, false, cond, ℕ, zero, suc, ◌+◌, Option, None, Some}
use Rattle.formats.specs.declared.Format.{Format}
use Rattle.formats.specs.declared.Format.TheVariants.{Raw10, Raw12}
use Rattle.hub.specs.declared.Hub.{Hub}
use Rattle.origins.specs.declared.RegistersWithOrigins.{RegistersWithOrigins}
use Rattle.origins.specs.Origins.{FileOfBytes}
use Rattle.endstate.specs.declared.findings.Grade.{Grade}
use Rattle.endstate.specs.declared.findings.Grade.TheVariants.{Meant, Wrong}
use Rattle.endstate.specs.declared.findings.Clash.{Clash}
use Rattle.endstate.specs.Channels.{same_channel}
use Rattle.endstate.specs.Addresses.{same_address}
use Rattle.endstate.specs.Unset.{not_set_up, NotSetUp}

-- how it is graded, where there is a finding
abbrev pub grade_of : Option Clash → Option Grade
grade_of None = None
grade_of (Some clash) = Some clash.grade

abbrev pub is_wrong : Option Grade → Bool
is_wrong None = false
is_wrong (Some Meant) = false
is_wrong (Some Wrong) = true

-- how many numbers below n a test holds of
unfoldable pub count_below : (ℕ → Bool) → ℕ → ℕ
count_below test zero = 0
count_below test (suc n) = cond (test n) (count_below test n + 1) (count_below test n)

abbrev pub wrong_channel : Hub → RegistersWithOrigins → Format → ℕ → ℕ → Bool
wrong_channel hub state format output channel = is_wrong (same_channel hub state format output channel).grade

abbrev pub wrong_address : Hub → RegistersWithOrigins → ℕ → Bool
wrong_address hub state address = is_wrong (same_address hub state address).grade

-- of the four channels of an output
abbrev pub wrong_channels : Hub → RegistersWithOrigins → Format → ℕ → ℕ
wrong_channels hub state format output = count_below (wrong_channel hub state format output) 4

-- both formats, two outputs with four channels each, 128 addresses and four ports
unfoldable pub wrong_count : Hub → RegistersWithOrigins → ℕ
wrong_count hub state =
    wrong_channels hub state Raw10 0
    + wrong_channels hub state Raw10 1
    + wrong_channels hub state Raw12 0
    + wrong_channels hub state Raw12 1
    + count_below (wrong_address hub state) 128
    + count_below (not_set_up hub state) 4

-- nothing is wrong: on no output and channel, at no address and of no port, whatever their numbers
pub record NothingWrong (hub : Hub) (state : RegistersWithOrigins) : Type 0 where
  pub channels : (format : Format) (output channel : ℕ)
      → (same_channel hub state format output channel).grade ≡ Some Wrong → ⊥
  pub addresses : (address : ℕ) → (same_address hub state address).grade ≡ Some Wrong → ⊥
  pub ports : (port : ℕ) → NotSetUp hub state port → ⊥

-- The count is 0 exactly where nothing is wrong.
pub record NothingWrongMeans (hub : Hub) (state : RegistersWithOrigins) : Type 0 where
  pub only : wrong_count hub state ≡ 0 → NothingWrong hub state
  pub every : NothingWrong hub state → wrong_count hub state ≡ 0

-- (Every hub meets `FileOfBytes`: `origins::start` proves it of any register file.)
abbrev pub NothingWrongExact : Type 0
NothingWrongExact =
    (hub : Hub) → FileOfBytes hub.registers → (state : RegistersWithOrigins) → NothingWrongMeans hub state
