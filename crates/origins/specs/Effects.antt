-- What a register write does, under the page selection: which registers it reaches, and which of them it changes.
-- Assumes nothing.
use Rattle.std.specs.Prelude.{◌≡◌, ℕ, ◌-◌, ◌<◌, Bool, true, false, cond, not, ◌==◌, bit_and}
use Rattle.laws.specs.Bits.{bit}
use Rattle.registers.specs.declared.RegisterFile.{RegisterFile}
use Rattle.registers.specs.declared.PageAccess.TheVariants.{Selection}
use Rattle.registers.specs.RegisterMap.{mask_of, per_port, FPD3_PORT_SEL}
use Rattle.registers.specs.RegisterFiles.{selection, write_register}
use Rattle.ports.specs.PortMasks.{port_mask}
use Rattle.origins.specs.declared.effects.Effect.{Effect}
use Rattle.origins.specs.declared.effects.Effect.TheVariants.{NotFollowed, NoPort, Selected, Shared, Ports}
use Rattle.origins.specs.Origins.{Register, shared_register, port_register, IsRegister, value_at}
use Rattle.origins.specs.Origins.{is_writable, reaches, FileOfBytes}

-- a register holds another value than before
abbrev pub differs : RegisterFile → RegisterFile → Register → Bool
differs before after register = not (value_at after register == value_at before register)

-- it does after the write
abbrev pub changes : RegisterFile → ℕ → ℕ → Register → Bool
changes file offset value register = differs file (write_register Selection file offset value) register

-- "the value has bits that are not writable in it"
abbrev pub ignores_bits : ℕ → ℕ → Bool
ignores_bits offset value = not (bit_and value (255 - mask_of offset) == 0)

-- "reached these ports [...] and which of them changed; nothing, because no port was ticked"
unfoldable pub ports_effect : RegisterFile → ℕ → ℕ → Effect
ports_effect file offset value =
    let reached = port_mask (λ port. reaches file offset (port_register port offset)) in
    let changed = port_mask (λ port. changes file offset value (port_register port offset)) in
    cond (reached == 0) NoPort (Ports reached changed (ignores_bits offset value))

-- "selected these ports", with the bits of the value that tick them; or reached "the shared register"
unfoldable pub shared_effect : RegisterFile → ℕ → ℕ → Effect
shared_effect file offset value =
    let changed = changes file offset value (shared_register offset) in
    cond (offset == FPD3_PORT_SEL)
    (Selected (port_mask (λ port. bit port value)) changed (ignores_bits offset value))
    (Shared changed (ignores_bits offset value))

-- "nothing, because no bit of the register is writable (the model does not follow it)"
unfoldable pub effect_of : RegisterFile → ℕ → ℕ → Effect
effect_of file offset value =
    cond (is_writable offset)
    (cond (per_port offset) (ports_effect file offset value) (shared_effect file offset value))
    NotFollowed

-- every register is as it was
abbrev pub NothingChanged : RegisterFile → ℕ → ℕ → Type 0
NothingChanged file offset value =
    (register : Register) → IsRegister register
    → value_at (write_register Selection file offset value) register ≡ value_at file register

-- What each effect means, by the register file's own write.
pub record MeansNotFollowed (file : RegisterFile) (offset value : ℕ) : Type 0 where
  pub unwritable : mask_of offset ≡ 0
  pub nothing : NothingChanged file offset value

pub record MeansNoPort (file : RegisterFile) (offset value : ℕ) : Type 0 where
  pub paged : per_port offset ≡ true
  pub unticked : (port : ℕ) → port < 4 → bit port (selection file) ≡ false
  pub nothing : NothingChanged file offset value

-- bit p of the mask is set exactly where port p is ticked from then on
pub record MeansSelected (file : RegisterFile) (offset value mask : ℕ) (isChanged isIgnored : Bool) : Type 0 where
  pub at_selection : offset ≡ FPD3_PORT_SEL
  pub reached : reaches file offset (shared_register offset) ≡ true
  pub ticked : (port : ℕ) → port < 4
      → bit port mask ≡ bit port (selection (write_register Selection file offset value))
  pub changed : isChanged ≡ changes file offset value (shared_register offset)
  pub ignored : isIgnored ≡ ignores_bits offset value

pub record MeansShared (file : RegisterFile) (offset value : ℕ) (isChanged isIgnored : Bool) : Type 0 where
  pub not_selection : offset ≡ FPD3_PORT_SEL → ⊥
  pub reached : reaches file offset (shared_register offset) ≡ true
  pub changed : isChanged ≡ changes file offset value (shared_register offset)
  pub ignored : isIgnored ≡ ignores_bits offset value

-- a port that is ticked
pub record TickedPort (file : RegisterFile) : Type 0 where
  pub port : ℕ
  pub within : port < 4
  pub ticked : bit port (selection file) ≡ true

-- some port is ticked; bit p of the first mask is set exactly where port p is, which is where its register is reached;
-- and bit p of the second one exactly where after the write the port's register differs from before
pub record MeansPorts (file : RegisterFile) (offset value reachedMask changedMask : ℕ) (isIgnored : Bool)
    : Type 0 where
  pub paged : per_port offset ≡ true
  pub some_port : TickedPort file
  pub ticked : (port : ℕ) → port < 4 → bit port reachedMask ≡ bit port (selection file)
  pub reached : (port : ℕ) → port < 4 → bit port reachedMask ≡ reaches file offset (port_register port offset)
  pub changed : (port : ℕ) → port < 4 → bit port changedMask ≡ changes file offset value (port_register port offset)
  pub ignored : isIgnored ≡ ignores_bits offset value

abbrev pub EffectMeans : RegisterFile → ℕ → ℕ → Effect → Type 0
EffectMeans file offset value NotFollowed = MeansNotFollowed file offset value
EffectMeans file offset value NoPort = MeansNoPort file offset value
EffectMeans file offset value (Selected mask changed ignored) = MeansSelected file offset value mask changed ignored
EffectMeans file offset value (Shared changed ignored) = MeansShared file offset value changed ignored
EffectMeans file offset value (Ports reached changed ignored) = MeansPorts file offset value reached changed ignored

abbrev pub EveryEffectMeans : Type 0
EveryEffectMeans =
    (file : RegisterFile) → FileOfBytes file → (offset value : ℕ)
    → EffectMeans file offset value (effect_of file offset value)

-- Only a register that the write reaches may change.
abbrev pub ChangedWhereReached : Type 0
ChangedWhereReached =
    (file : RegisterFile) → FileOfBytes file → (offset value : ℕ) (register : Register) → IsRegister register
    → changes file offset value register ≡ true → reaches file offset register ≡ true

-- a bit of the value that is set and not writable
pub record IgnoredBit (offset value : ℕ) : Type 0 where
  pub place : ℕ
  pub within : place < 8
  pub set : bit place value ≡ true
  pub unwritable : bit place (mask_of offset) ≡ false

-- Bits are ignored exactly where there is such a bit.
pub record IgnoresMeans (offset value : ℕ) : Type 0 where
  pub only : ignores_bits offset value ≡ true → IgnoredBit offset value
  pub every : IgnoredBit offset value → ignores_bits offset value ≡ true

abbrev pub EveryIgnoredBit : Type 0
EveryIgnoredBit = (offset value : ℕ) → offset < 256 → IgnoresMeans offset value
