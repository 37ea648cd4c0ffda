-- Laws of the calls' text: its length, one text after another, and a burst's line by line.
-- Assumes nothing.
use Rattle.std.proofs.Common.{◌≡◌, ℕ, suc, ◌+◌, ◌*◌, ◌<◌, ◌≤◌, List, [], ◌∷◌, ◌++◌, length, get_or, drop, sym, refl, ap, ◌∙◌, append_assoc, add-one, arith, length-append, drop_of_length-le, drop-cons}
use Rattle.buffers.specs.Numerals.{lowercase_byte}
use Rattle.registers.specs.Bursts.{RegisterWrite, next_offset, burst_writes}
use Rattle.listing.specs.Listing.{call_text, calls_text, TextsJoin}
use Rattle.listing.specs.PrivateContracts.{call_length}

-- each line has 20 bytes
pub length-text : (calls : List RegisterWrite) → length (calls_text calls) ≡ call_length * length calls
unfolding calls_text call_text lowercase_byte
length-text [] = refl
length-text (call ∷ calls) = let more = length-text calls in omega (arith, length-append (call_text call) (calls_text calls))

-- the text of some calls and of those after them
pub texts_join : TextsJoin
unfolding calls_text
texts_join [] later = refl
texts_join (call ∷ here) later =
    ap (λ (text : List ℕ). call_text call ++ text) (texts_join here later) ∙ sym (append_assoc (call_text call) (calls_text here) (calls_text later))

-- a burst has one call a value
pub length-burst : (offset : ℕ) (values : List ℕ) → length (burst_writes offset values) ≡ length values
unfolding burst_writes
length-burst offset [] = refl
length-burst offset (value ∷ values) = ap suc (length-burst (next_offset offset) values)

-- the text of a burst from value i on: one line more, or none
module _ (offset : ℕ) (values : List ℕ) (i : ℕ) where
  pub burst_line : i < length values
      → calls_text (burst_writes offset (drop i values))
      ≡ call_text (record { offset = offset; value = get_or values i 0 }) ++ calls_text (burst_writes (next_offset offset) (drop (i + 1) values))
  unfolding calls_text burst_writes
  burst_line h = rw (drop-cons values i 0 h, add-one i)

  pub burst_end : length values ≤ i → calls_text (burst_writes offset (drop i values)) ≡ []
  unfolding calls_text burst_writes
  burst_end h = rw (drop_of_length-le values {i = i} h)
