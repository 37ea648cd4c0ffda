-- Exactly the texts of the grammar are taken, each with one list of calls, and a trace is no longer than its text allows.
-- Assumes nothing.
use mathlib.Core.Path.{◌≡◌, refl, sym, ap, ◌∙◌}
use mathlib.Core.Bool.{Bool, true, false, cond}
use mathlib.Core.List.{List, [], ◌∷◌, ◌++◌}
use mathlib.Core.Option.{Option, none, some}
use Prim.Native.Nat.{ℕ, suc, ◌+◌, ◌*◌, ◌≤◌}
use native.Mathlib.Omega.{arith}
use borrow.Author.Tests.{le-leb, ltb-false, le-ltb, ne_eqb}
use lib.Dec.{eqb, ltb}
use lib.ListN.{length, length-append}
use Rattle.laws.specs.Reply.{Reply, refused, refused_at, refused_with, given}
use Rattle.laws.specs.Buffers.{has_room, count_of}
use Rattle.laws.proofs.Absurd.{zero_not_one}
use Rattle.laws.proofs.Replies.{was_true, then_given, room_by, room_given, count_given}
use Rattle.registers.specs.Bursts.{RegisterWrite}
use Rattle.registers.specs.declared.power_up.PowerUp.{PowerUp}
use Rattle.hub.specs.Hubs.{is_hub_address}
use Rattle.calls.specs.Grammar.{ValueText, one_digit, two_digits, IsScriptLine, blank, called}
use Rattle.calls.specs.ScriptLines.{script_line_read}
use Rattle.calls.proofs.LineLaws.{lines_taken}
use Rattle.script.specs.Grammar.{longest_script_line, Script, no_lines, more_lines}
use Rattle.script.specs.Traces.{trace_of}
use Rattle.script.specs.Reading.{parts_of, script_line_reply, rest_reply, script_line_then, is_last, calls_from, script_calls, script_trace}
use Rattle.script.specs.Laws.{ScriptsTaken, SuchText, ExactlySuchTexts, OneTrace, TraceIsShort, NoEight}
use Rattle.script.proofs.PartLaws.{Parts, last_part, next_part, parts_of_lem, some_part, parts_next, calls_more, calls_next, calls_last}
use Rattle.script.proofs.TraceLaws.{trace_length}

-- a line of the grammar gives its calls
line_given : (line : List ℕ) (here : List RegisterWrite) → IsScriptLine line here → length line ≤ longest_script_line → script_line_reply line ≡ given here
unfolding script_line_reply
line_given line here l short = rw (le-ltb longest_script_line (length line) short, (lines_taken line here).every l)

-- and what gives calls is a line of the grammar
pub given_line : (line : List ℕ) (here : List RegisterWrite) → script_line_reply line ≡ given here → IsScriptLine line here × (length line ≤ longest_script_line)
unfolding script_line_reply
given_line line here e = go (ltb longest_script_line (length line)) refl (script_line_read line) refl
  where
    go : (long : Bool) → ltb longest_script_line (length line) ≡ long → (read : Option (List RegisterWrite)) → script_line_read line ≡ read
        → IsScriptLine line here × (length line ≤ longest_script_line)
    go true p read q = let left = rw p at e in zero_not_one (cc)
    go false p none q = let left = rw (p, q) at e in zero_not_one (cc)
    go false p (some calls) q =
        let left = rw (p, q) at e in
        let same : script_line_read line ≡ some here = cc in
        ((lines_taken line here).only same, ltb-false longest_script_line (length line) p)

-- a script is taken, from whatever number its lines are counted
script_taken : (number : ℕ) {text : List ℕ} {calls : List RegisterWrite} → Script text calls → calls_from number (parts_of text) ≡ given calls
unfolding parts_of calls_from rest_reply
script_taken number no_lines = refl
script_taken number (more_lines line text here later l whole short more) =
    rw (parts_next line text whole, calls_next number line text, line_given line here l short, script_taken (suc number) more)

-- after the last line feed nothing stands
rest_none : (number : ℕ) (rest : List ℕ) (calls : List RegisterWrite) → rest_reply number rest ≡ given calls → Script rest calls
unfolding rest_reply
rest_none number [] calls e = let none : calls ≡ [] = cc in rw none no_lines
rest_none number (byte ∷ rest) calls e =
    let left = ne_eqb (length (byte ∷ rest)) 0 (λ (h : length (byte ∷ rest) ≡ 0). omega arith) in zero_not_one (cc)

-- a line and what follows it are taken together
both_taken : (number : ℕ) (first next : Reply (List RegisterWrite)) (calls : List RegisterWrite) → script_line_then number first next ≡ given calls
    → (here later : List RegisterWrite) × (first ≡ given here) × (next ≡ given later) × (calls ≡ here ++ later)
both_taken number (refused_with other detail) next calls e = zero_not_one (cc)
both_taken number (given here) (refused_with other detail) calls e = zero_not_one (cc)
both_taken number (given here) (given later) calls e = (here, later, refl, refl, cc)

-- what is taken is a script
taken_script : (number : ℕ) (calls : List RegisterWrite) {text : List ℕ} {parts : List (List ℕ)} → Parts text parts → calls_from number parts ≡ given calls
    → Script text calls
taken_script number calls (last_part line h) e = rest_none number line calls (sym (calls_last number line) ∙ e)
taken_script number calls (next_part line text parts h more) e =
    let both = both_taken number (script_line_reply line) (calls_from (suc number) parts) calls (sym (calls_more number line parts (some_part more)) ∙ e) in
    let found = given_line line both.0 both.2 in
    rw both.4 (more_lines line text both.0 both.1 found.0 h found.1 (taken_script (suc number) both.1 more both.3))

pub scripts_taken : (text : List ℕ) (calls : List RegisterWrite) → ScriptsTaken text calls
unfolding script_calls
scripts_taken text calls = record { every = script_taken 1; only = taken_script 1 calls (parts_of_lem text) }

pub one_trace : OneTrace
one_trace text calls others a b =
    let first = (scripts_taken text calls).every a in
    let second = (scripts_taken text others).every b in
    cc

-- a script, a hub's address and room for the trace are what is taken
pub exactly_such_texts : ExactlySuchTexts
unfolding script_trace
exactly_such_texts address start text size trace = record { every = every; only = only }
  where
    every : SuchText address start text size trace → script_trace address start text size ≡ given trace
    every t =
        let room : has_room size 0 (length trace) ≡ true = le-leb (0 + length trace) size (omega (arith, t.room)) in
        rw (t.allowed, (scripts_taken text t.calls).every t.script, sym t.made) (room_by size 0 trace (length trace) refl room)

    only : script_trace address start text size ≡ given trace → SuchText address start text size trace
    only e =
        let allowed = was_true 2 (is_hub_address address) e in
        let found = then_given (script_calls text) _ allowed.1 in
        let fits = room_given size 0 (trace_of address start found.0) found.2 in
        record {
          calls = found.0;
          script = (scripts_taken text found.0).only found.1;
          made = fits.0;
          allowed = allowed.0;
          room = omega (arith, fits.1, ap length fits.0);
        }

-- a trace that is put ends inside the buffer
pub trace_inside : (address : ℕ) (start : PowerUp) (size n : ℕ) (text : List ℕ) → given n ≡ count_of (script_trace address start text size) → n ≤ size
trace_inside address start size n text e =
    let found = count_given (script_trace address start text size) e in
    omega (arith, found.2, ((exactly_such_texts address start text size found.0).only found.1).room)

-- a value has at least 3 bytes
value_long : {text : List ℕ} {value : ℕ} → ValueText text value → 3 ≤ length text
value_long (one_digit digit small shape same) = rw shape (omega arith)
value_long (two_digits high low small less shape same) = rw shape (omega arith)

-- a call's line has at least 17 bytes, and its line feed makes 18
line_long : {line : List ℕ} {here : List RegisterWrite} → IsScriptLine line here → 18 * length here ≤ 1 + length line
line_long (blank b) = omega arith
line_long (called c) =
    let offset = value_long c.offset_shape in
    let value = value_long c.value_shape in
    omega (arith, simp length-append at (ap length c.shape))

-- so a text has 18 for each call
text_long : {text : List ℕ} {calls : List RegisterWrite} → Script text calls → 18 * length calls ≤ length text
text_long no_lines = omega arith
text_long (more_lines line text here later l whole short more) =
    let first = line_long l in
    let next = text_long more in
    omega (arith, length-append line (10 ∷ text), length-append here later)

pub trace_is_short : TraceIsShort
trace_is_short address start text calls script = omega (arith, text_long script, trace_length address start calls)

-- no text as such is refused without its line
with_line_lem : (number other : ℕ) (parts : List (List ℕ)) → calls_from number parts ≡ refused other → ⊥
unfolding calls_from rest_reply
with_line_lem number other [] e = zero_not_one (cc)
with_line_lem number other (part ∷ parts) e =
    go (is_last parts) (eqb (length part) 0) (script_line_reply part) (calls_from (suc number) parts) refl e (with_line_lem (suc number) other parts)
  where
    go : (last empty : Bool) (first next : Reply (List RegisterWrite)) → calls_from (suc number) parts ≡ next
        → cond last (cond empty (given []) (refused_at (cond (ltb longest_script_line (length part)) 15 14) number)) (script_line_then number first next) ≡ refused other
        → (calls_from (suc number) parts ≡ refused other → ⊥) → ⊥
    go true true first next p q ih = zero_not_one (cc)
    go true false first next p q ih = zero_not_one (cc)
    go false empty (refused_with n detail) next p q ih = zero_not_one (cc)
    go false empty (given here) (refused_with n detail) p q ih = ih (p ∙ q)
    go false empty (given here) (given later) p q ih = zero_not_one (cc)

pub no_eight : NoEight
unfolding script_trace script_calls
no_eight address start text size room e = go (is_hub_address address) refl (script_calls text) refl
  where
    go : (b : Bool) → is_hub_address address ≡ b → (reply : Reply (List RegisterWrite)) → script_calls text ≡ reply → ⊥
    go false p reply q = let told = rw p at e in let z : ◌≡◌ {A = ℕ} 2 8 = cc in omega arith
    go true p (refused_with n detail) q =
        let told = rw (p, q) at e in
        let same : ◌≡◌ {A = Reply (List RegisterWrite)} (refused_with n detail) (refused 8) = cc in
        with_line_lem 1 8 (parts_of text) (q ∙ same)
    go true p (given calls) q =
        let short = trace_is_short address start text calls ((scripts_taken text calls).only q) in
        let trace = trace_of address start calls in
        let fits = room_by size 0 trace (length trace) refl (le-leb (0 + length trace) size (omega arith)) in
        let told = rw (p, q) at e in
        zero_not_one (cc)
