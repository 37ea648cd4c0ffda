-- The origin of a register is the last write that reaches it.
-- Assumes nothing.
use Rattle.std.proofs.Common.{◌≡◌, Bool, true, false, cond, List, [], ◌∷◌, ◌++◌, refl, ap, ◌∙◌}
use mathlib.Core.List.Memᴰ
use mathlib.Core.List.{Memᴰ}
use mathlib.Core.Option.{Option, none, some}
use Rattle.laws.proofs.Absurd.{zero_not_one}
use Rattle.registers.specs.declared.RegisterFile.{RegisterFile}
use Rattle.registers.specs.Bursts.{write_each}
use Rattle.origins.specs.declared.NumberedWrite.{NumberedWrite}
use Rattle.origins.specs.NumberedWrites.{unnumbered_writes}
use Rattle.origins.specs.Origins.{Register, reaches, after_numbered, after_each, later_or, origin_of}
use Rattle.origins.specs.Origins.{NoneReaches, LastReaching, EveryOriginIsLast}

module _ (register : Register) where
  every_none_lem : (file : RegisterFile) (writes : List NumberedWrite) → NoneReaches file writes register
      → origin_of file writes register ≡ none
  unfolding origin_of
  every_none_lem file [] h = refl
  every_none_lem file (write ∷ writes) h = rw (every_none_lem (after_numbered file write) writes h.1, h.0)

  -- what the later writes and the first one say of all
  split_none : (later : Option NumberedWrite) (b : Bool) (write : NumberedWrite)
      → later_or later (cond b (some write) none) ≡ none → (later ≡ none) × (b ≡ false)
  split_none none false write e = (refl, refl)
  split_none none true write e = zero_not_one (cc)
  split_none (some w) b write e = zero_not_one (cc)

  only_none_lem : (file : RegisterFile) (writes : List NumberedWrite) → origin_of file writes register ≡ none
      → NoneReaches file writes register
  unfolding origin_of
  only_none_lem file [] e = tt
  only_none_lem file (write ∷ writes) e =
      let next = after_numbered file write in
      let two = split_none (origin_of next writes register) (reaches file write.offset register) write e in
      (two.1, only_none_lem next writes two.0)

  -- the last one behind some earlier ones
  behind : (file : RegisterFile) (earlier later : List NumberedWrite) (write : NumberedWrite)
      → reaches (after_each file earlier) write.offset register ≡ true
      → NoneReaches (after_numbered (after_each file earlier) write) later register
      → origin_of file (earlier ++ (write ∷ later)) register ≡ some write
  unfolding origin_of write_each unnumbered_writes
  behind file [] later write r n = rw (every_none_lem (after_numbered file write) later n, r)
  behind file (first ∷ earlier) later write r n = rw (behind (after_numbered file first) earlier later write r n)

  first_is : (file : RegisterFile) (write : NumberedWrite) (writes : List NumberedWrite)
      → reaches file write.offset register ≡ true → origin_of (after_numbered file write) writes register ≡ none
      → LastReaching file (write ∷ writes) register write
  unfolding write_each unnumbered_writes
  first_is file write writes r e =
      record {
        earlier = [];
        later = writes;
        split = refl;
        reaching = r;
        last = only_none_lem (after_numbered file write) writes e;
      }

  later_is : (file : RegisterFile) (first write : NumberedWrite) (writes : List NumberedWrite)
      → LastReaching (after_numbered file first) writes register write
      → LastReaching file (first ∷ writes) register write
  unfolding write_each unnumbered_writes
  later_is file first write writes l =
      record {
        earlier = first ∷ l.earlier;
        later = l.later;
        split = ap (λ (ws : List NumberedWrite). first ∷ ws) l.split;
        reaching = l.reaching;
        last = l.last;
      }

  only_last_lem : (file : RegisterFile) (writes : List NumberedWrite) (write : NumberedWrite)
      → origin_of file writes register ≡ some write → LastReaching file writes register write
  unfolding origin_of
  only_last_lem file [] write e = zero_not_one (cc)
  only_last_lem file (first ∷ writes) write e =
      go (origin_of next writes register) (reaches file first.offset register) refl refl e
      (only_last_lem next writes write)
    where
      next : RegisterFile
      next = after_numbered file first

      go : (later : Option NumberedWrite) (b : Bool) → origin_of next writes register ≡ later
          → reaches file first.offset register ≡ b → later_or later (cond b (some first) none) ≡ some write
          → (origin_of next writes register ≡ some write → LastReaching next writes register write)
          → LastReaching file (first ∷ writes) register write
      go (some w) b l r e ih = later_is file first write writes (ih (l ∙ e))
      go none true l r e ih = let q : first ≡ write = cc in rw (← q) (first_is file first writes r l)
      go none false l r e ih = zero_not_one (cc)

-- it is one of the writes
pub last_among : {file : RegisterFile} {writes : List NumberedWrite} {register : Register} {write : NumberedWrite}
    → LastReaching file writes register write → Memᴰ write writes
last_among l = rw l.split (Memᴰ.append_right l.earlier (Memᴰ.head refl))

pub every_origin_is_last : EveryOriginIsLast
every_origin_is_last file writes register =
    record {
      only_last = λ write e. only_last_lem register file writes write e;
      every_last = λ write l.
          rw l.split (behind register file l.earlier l.later write l.reaching l.last);
      only_none = only_none_lem register file writes;
      every_none = every_none_lem register file writes;
    }
