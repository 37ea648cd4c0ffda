-- A trace, its text, and the trace of that text: L1's law over both ways, with the start (L5).
-- Assumes nothing.
use Rattle.std.specs.Prelude.{◌≡◌, List, ℕ, ◌≤◌, length}
use Rattle.laws.specs.Reply.{given}
use Rattle.laws.specs.Elements.{AreBytes}
use Rattle.registers.specs.declared.power_up.PowerUp.{PowerUp}
use Rattle.script.specs.Reading.{script_trace}
use Rattle.listing.specs.declared.HubAsked.{HubAsked}
use Rattle.listing.specs.TraceHubs.{trace_hub}
use Rattle.listing.specs.Listing.{trace_text}
use Rattle.playback.specs.Playing.{end_hub}

-- The text is read again with an address and a start, into any buffer that has room for its trace, and what it makes
-- plays to the same end.
pub record PlaysAlike (address : ℕ) (start : PowerUp) (trace text : List ℕ) : Type 0 where
  pub again : List ℕ
  pub read : (room : ℕ) → length again ≤ room → script_trace address start text room ≡ given again
  pub end : end_hub again ≡ end_hub trace

-- L1: "Text made from a trace and read again with its address plays to the same end state." L5: "for text made from a
-- trace the trace's own" start.
abbrev pub SameEndState : Type 0
SameEndState =
    (trace text : List ℕ) (hub : HubAsked) (size : ℕ) → AreBytes trace
    → trace_hub trace ≡ given hub → trace_text trace size ≡ given text
    → PlaysAlike hub.address hub.start trace text
