-- A file read window by window, and work on it: however the bytes are read, the work on the windows comes to what it
-- comes to on the whole file, and it ends. No rule of the papers.
-- Assumes nothing.
use Rattle.std.specs.Prelude.{◌≡◌, Bool, true, false, cond, not, ◌&&◌, Option, Some, None, List, [], ◌∷◌, ◌++◌, ℕ, suc}
use Rattle.std.specs.Prelude.{◌+◌, ◌-◌, ◌*◌, ◌≤◌, ◌<◌, min, eqb, ltb, length, take, drop}
use Rattle.streams.specs.declared.Window.{Window}

abbrev pub new_window : Window
new_window = record { held = 0; last = false }

-- bytes are to be read: the file has not ended, and there is room after those that are held
abbrev pub wants_bytes : Window → ℕ → Bool
wants_bytes window size = not window.last && ltb window.held size

-- the file has ended: it had, or there is room and no byte was read
abbrev pub file_ended : Bool → ℕ → ℕ → ℕ → Bool
file_ended last held size got = cond last true (cond (ltb held size) (eqb got 0) false)

-- the window after a read, in a buffer of that size
abbrev pub after_read : Window → ℕ → ℕ → Window
after_read window got size =
    let held = min window.held size in
    let new = min got (size - held) in
    record { held = held + new; last = file_ended window.last held size new }

-- A law: after a read the window holds what it held with the new bytes after it, and its last bytes are known to be
-- the last as `next_turn`, below, has it.
pub record WindowRead (window : Window) (got : ℕ) (buffer : List ℕ) : Type 0 where
  pub bytes : take (after_read window got (length buffer)).held buffer
      ≡ take window.held buffer ++ take got (drop window.held buffer)
  pub last : (after_read window got (length buffer)).last
      ≡ file_ended window.last (length (take window.held buffer)) (length buffer)
      (length (take got (drop window.held buffer)))

abbrev pub ReadsAfterHeld : Type 0
ReadsAfterHeld = (window : Window) (got : ℕ) (buffer : List ℕ) → WindowRead window got buffer

-- the number of the refusal that the work came to, 0 for none
abbrev pub number_or_0 : {E : Type 0} → (E → ℕ) → Option E → ℕ
number_or_0 number None = 0
number_or_0 number (Some refusal) = number refusal

-- nothing is left to do: the work is over, or the file has ended and no byte of it is left
abbrev pub nothing_left : Bool → Bool → ℕ → Bool
nothing_left over last left = cond over true (last && eqb left 0)

-- What is done with the bytes of a window: the state after it, the bytes that are left, what is put out, and whether
-- the work is over before the file's end.
pub record Worked (S : Type 0) : Type 0 where
  pub state : S
  pub left : List ℕ
  pub put : List ℕ
  pub over : Bool

-- Work on a file: what is done with the bytes of a window in a state, with a buffer that is lent for what is put out;
-- `last` where the file ends with them.
abbrev pub Work : Type 0 → Type 0
Work S = (last : Bool) (state : S) (bytes lent : List ℕ) → Worked S

-- A way through a file: the state, the bytes that were read and are left, whether the file is known to have ended, the
-- bytes that are not read, what was put out, and whether nothing is left to do.
pub record Way (S : Type 0) : Type 0 where
  pub state : S
  pub left : List ℕ
  pub last : Bool
  pub unread : List ℕ
  pub put : List ℕ
  pub done : Bool

abbrev pub way_from : {S : Type 0} → S → List ℕ → Way S
way_from state file = record { state = state; left = []; last = false; unread = file; put = []; done = false }

-- What a turn is given: how many bytes beyond the first its read gives, if there are so many and they have room, and
-- the buffer that is lent.
pub record TurnInput : Type 0 where
  pub more : ℕ
  pub lent : List ℕ

-- A read gives the next bytes of the file: one or more where there are any and there is room, and no more than have
-- room.
abbrev pub bytes_read : ℕ → ℕ → List ℕ → List ℕ
bytes_read room more unread = take (min (suc more) room) unread

-- a turn: bytes are read into a buffer of that size after those that are left, and the work is done with them
unfoldable pub next_turn : {S : Type 0} → Work S → ℕ → Way S → TurnInput → Way S
next_turn work size way input =
    let bytes = bytes_read (size - length way.left) input.more way.unread in
    let last = file_ended way.last (length way.left) size (length bytes) in
    let worked = work last way.state (way.left ++ bytes) input.lent in
    record {
      state = worked.state;
      left = worked.left;
      last = last;
      unread = drop (length bytes) way.unread;
      put = way.put ++ worked.put;
      done = nothing_left worked.over last (length worked.left);
    }

-- turns are made until nothing is left to do
unfoldable pub all_turns : {S : Type 0} → Work S → ℕ → Way S → List TurnInput → Way S
all_turns work size way [] = way
all_turns work size way (input ∷ inputs) =
    cond way.done way (all_turns work size (next_turn work size way input) inputs)

-- What work comes to: with some bytes of the file still to come; after something was put out; and where nothing more
-- is to be done.
pub record Result (S R : Type 0) : Type 0 where
  pub to_come : S → List ℕ → R
  pub after : List ℕ → R → R
  pub end : S → R

-- every buffer that is lent has so much room
abbrev pub AllLend : ℕ → List TurnInput → Type 0
AllLend room [] = Unit {0}
AllLend room (input ∷ inputs) = (room ≤ length input.lent) × AllLend room inputs

-- The work may be done window by window. `Holds` is what is known of a state and the bytes that are still to come; a
-- window of `least` bytes shows enough to go on, and a buffer of `room` bytes is enough to be lent.
pub record ByWindows {S R : Type 0} (work : Work S) (result : Result S R) (Holds : S → List ℕ → Type 0)
    (least room : ℕ) : Type 0 where
  -- what is put out after something else
  pub joined : (a b : List ℕ) (r : R) → result.after (a ++ b) r ≡ result.after a (result.after b r)
  pub nothing : (r : R) → result.after [] r ≡ r
  -- where no byte is to come, nothing more is to be done
  pub at_end : (state : S) → result.to_come state [] ≡ result.end state
  -- whatever follows the window in the file (at its end, nothing): what is put out is the next of what is to come
  pub next : (last : Bool) (state : S) (bytes lent rest : List ℕ) → (last ≡ true → rest ≡ []) → room ≤ length lent
      → Holds state (bytes ++ rest)
      → let worked = work last state bytes lent in
      (result.to_come state (bytes ++ rest)
      ≡ result.after worked.put (result.to_come worked.state (worked.left ++ rest)))
      × Holds worked.state (worked.left ++ rest)
      × (worked.over ≡ true → result.to_come worked.state (worked.left ++ rest) ≡ result.end worked.state)
  -- no more is left than there was; and less, where the window shows enough and the work is not over
  pub most : (last : Bool) (state : S) (bytes lent : List ℕ)
      → length (work last state bytes lent).left ≤ length bytes
  pub less : (last : Bool) (state : S) (bytes lent rest : List ℕ) → room ≤ length lent → Holds state (bytes ++ rest)
      → 1 ≤ length bytes → (last ≡ false → least ≤ length bytes) → (work last state bytes lent).over ≡ false
      → length (work last state bytes lent).left < length bytes

-- However the bytes of a file are read, into a buffer of any size that holds enough: the work ends within so many
-- turns (each takes bytes, leaves fewer of them, or finds that the file has ended), and comes to what it comes to on
-- the whole file.
abbrev pub HoweverRead : Type 1
HoweverRead =
    (S R : Type 0) (work : Work S) (result : Result S R) (Holds : S → List ℕ → Type 0) (least room : ℕ)
    → ByWindows work result Holds least room
    → (start : S) (file : List ℕ) (size : ℕ) (inputs : List TurnInput)
    → Holds start file → 1 ≤ size → least ≤ size → AllLend room inputs → 2 * length file + 1 ≤ length inputs
    → let end = all_turns work size (way_from start file) inputs in
    (end.done ≡ true) × (result.after end.put (result.end end.state) ≡ result.to_come start file)

-- A program stands where a way through a file does: its state, its window, and what its buffer holds at the start.
pub record StandsAt {S : Type 0} (way : Way S) (state : S) (window : Window) (buffer : List ℕ) : Type 0 where
  pub same_state : state ≡ way.state
  pub held : take window.held buffer ≡ way.left
  pub last : window.last ≡ way.last

-- A read put into the buffer, after what the window holds, what the way's next turn reads.
abbrev pub ReadGave : {S : Type 0} → Way S → TurnInput → Window → ℕ → List ℕ → Type 0
ReadGave way input window got buffer =
    take got (drop window.held buffer)
    ≡ bytes_read (length buffer - length way.left) input.more way.unread

-- A program's turn is the way's next one: it stands where that leads, it put out what that puts out, and it is done
-- where that is.
pub record IsNextTurn {S : Type 0} (work : Work S) (size : ℕ) (way : Way S) (input : TurnInput)
    (state : S) (window : Window) (buffer put : List ℕ) (done : Bool) : Type 0 where
  pub stands : StandsAt (next_turn work size way input) state window buffer
  pub text : (next_turn work size way input).put ≡ way.put ++ put
  pub ends : (next_turn work size way input).done ≡ done
