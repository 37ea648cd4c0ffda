-- How the contracts of the private functions are stated: no rule of the papers.
-- Assumes nothing.
use Rattle.std.specs.Prelude.{◌≡◌, ℕ, ◌*◌, Bool, cond, Result, List}
use Rattle.laws.specs.Reply.{Reply, refused, given, and_then, reply_by}
use Rattle.laws.specs.Buffers.{has_room}
use Rattle.buffers.specs.Putting.{Puts}
use Rattle.registers.specs.Bursts.{RegisterWrite}
use Rattle.trace.specs.Records.{record_of}
use Rattle.listing.specs.declared.TextRefusal.{TextRefusal}
use Rattle.listing.specs.Refusals.{text_refusal_number}
use Rattle.listing.specs.Listing.{calls_text, record_calls, trace_calls}

-- the bytes of a call's line, with its line feed
abbrev pub call_length : ℕ
call_length = 20

-- the paper's number for a refusal, and how many calls there are
abbrev pub count_reply : Result ℕ TextRefusal → Reply ℕ
count_reply counted = reply_by text_refusal_number counted

-- how many bytes the text of so many calls has, if they have room: `text_if_room` by the count alone
abbrev pub bytes_if_room : ℕ → ℕ → Reply ℕ → Reply ℕ
bytes_if_room size place counted =
    and_then counted (λ calls. cond (has_room size place (call_length * calls)) (given (call_length * calls)) (refused 8))

-- the calls of a record that has a text were put
abbrev pub PutsRecord : Bool → List ℕ → List ℕ → ℕ → List ℕ → ℕ → Type 0
PutsRecord first bytes before at after next =
    (calls : List RegisterWrite) → record_calls (record_of first bytes) ≡ given calls
    → Puts before at (calls_text calls) after next

-- the calls of a trace that has a text were put at the start
abbrev pub PutsText : List ℕ → List ℕ → List ℕ → ℕ → Type 0
PutsText trace before after next =
    (calls : List RegisterWrite) → trace_calls trace ≡ given calls → Puts before 0 (calls_text calls) after next
