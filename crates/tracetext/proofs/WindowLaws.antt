-- What a window puts is the next part of the text that is to come, and how the source's loop gets through it.
-- Assumes nothing.
use Rattle.std.proofs.Common.{◌≡◌, ℕ, zero, suc, ◌+◌, ◌≤◌, Bool, true, false, cond, List, [], ◌++◌, length, sym, refl, ap, ◌∙◌, add-zero, arith, length-append}
use Rattle.laws.proofs.Buffers.{written_nil, written_more, length-written}
use Rattle.laws.proofs.Replies.{joined_none, joined_twice}
use Rattle.tracetext.specs.TextWindows.{ListState, may_list, list_one, list_window}
use Rattle.tracetext.proofs.RecordLaws.{to_come, text_then, Known, ListsNext, todo, todo_most, one_most, one_less, one_lists}

module _ (rest : List ℕ) where
  -- nothing is listed
  lists_none : (state : ListState) → state.at ≤ length state.out → Known state.run (state.left ++ rest) → ListsNext rest state state
  lists_none state h known =
      record {
        text = [];
        stored = sym (written_nil state.out state.at);
        place = sym (add-zero state.at);
        inside = h;
        listed = joined_none (to_come state.run (state.left ++ rest));
        known = known;
      }

  -- one part of the text after another
  lists_then : {a b c : ListState} → ListsNext rest a b → ListsNext rest b c → ListsNext rest a c
  lists_then {a} {b} {c} p q =
      let size = length-append p.text q.text in
      let same = ap length p.stored ∙ length-written a.out a.at p.text (omega (arith, p.place, p.inside)) in
      record {
        text = p.text ++ q.text;
        stored = q.stored ∙ rw (p.stored, p.place) (written_more a.out a.at p.text (omega (arith, p.place, p.inside)) q.text (omega (arith, p.place, q.place, q.inside)));
        place = omega (arith, p.place, q.place);
        inside = omega (arith, q.inside);
        listed = p.listed ∙ ap (text_then p.text) q.listed ∙ joined_twice p.text q.text (to_come c.run (c.left ++ rest));
        known = q.known;
      }

-- the window's records by the test of the first of them
by_first : (P : ListState → Type 0) (n : ℕ) (last : Bool) (state : ListState) → (may_list last state ≡ true → P (list_window n last (list_one state)))
    → (may_list last state ≡ false → P state) → P (list_window (suc n) last state)
unfolding list_window
by_first P n last state more none = go (may_list last state) refl
  where
    go : (b : Bool) → may_list last state ≡ b → P (cond b (list_window n last (list_one state)) state)
    go true e = more e
    go false e = none e

-- what a window puts is the next part, whatever follows the window in the trace (at its end, nothing)
pub windows_list : (n : ℕ) (last : Bool) (rest : List ℕ) (before : ListState) → (last ≡ true → rest ≡ []) → before.at ≤ length before.out
    → Known before.run (before.left ++ rest) → ListsNext rest before (list_window n last before)
unfolding list_window
windows_list zero last rest before ends inside known = lists_none rest before inside known
windows_list (suc n) last rest before ends inside known =
    by_first (ListsNext rest before) n last before
    (λ e.
    let one = one_lists last before e rest ends known in
    let same = ap length one.stored ∙ length-written before.out before.at one.text (omega (arith, one.place, one.inside)) in
    lists_then rest one (windows_list n last rest (list_one before) ends (omega (arith, one.inside)) one.known))
    (λ e. lists_none rest before inside known)

-- no more is left than there was
pub left_most : (n : ℕ) (last : Bool) (state : ListState) → length (list_window n last state).left ≤ length state.left
unfolding list_window
left_most zero last state = omega arith
left_most (suc n) last state =
    by_first (λ after. length after.left ≤ length state.left) n last state
    (λ e. omega (arith, left_most n last (list_one state), one_most state)) (λ e. omega arith)

-- nor is more to do; and where a record may be listed it is less
to_do_most : (n : ℕ) (last : Bool) (state : ListState) → todo (list_window n last state) ≤ todo state
unfolding list_window
to_do_most zero last state = omega arith
to_do_most (suc n) last state =
    by_first (λ after. todo after ≤ todo state) n last state (λ e. omega (arith, to_do_most n last (list_one state), one_less last state e)) (λ e. omega arith)

-- the next record is listed, or none
next_listed : (n : ℕ) (last : Bool) (state : ListState) → may_list last state ≡ true → list_window (suc n) last state ≡ list_window n last (list_one state)
unfolding list_window
next_listed n last state may = rw may

pub none_listed : (n : ℕ) (last : Bool) (state : ListState) → may_list last state ≡ false → list_window n last state ≡ state
unfolding list_window
none_listed zero last state may = refl
none_listed (suc n) last state may = rw may

pub to_do_less : (n : ℕ) (last : Bool) (state : ListState) → length state.left ≤ n → may_list last state ≡ true
    → 1 + todo (list_window n last state) ≤ todo state
to_do_less zero last state h may = absurd (omega (arith, one_less last state may, todo_most state))
to_do_less (suc n) last state h may = rw (next_listed n last state may) (omega (arith, to_do_most n last (list_one state), one_less last state may))

-- The source's loop is on its way from the start of a window: the records from here on, with enough of them asked for, end where it ends.
pub record OnTheWay (last : Bool) (start now : ListState) : Type 0 where
  pub n : ℕ
  pub enough : todo now ≤ n
  pub same : list_window (length start.left) last start ≡ list_window n last now

module _ (last : Bool) (start : ListState) where
  pub way_start : OnTheWay last start start
  way_start = record { n = length start.left; enough = todo_most start; same = refl }

  module _ (state : ListState) (way : OnTheWay last start state) where
    pub way_on : may_list last state ≡ true → OnTheWay last start (list_one state)
    way_on may = go way.n way.enough way.same
      where
        go : (n : ℕ) → todo state ≤ n → list_window (length start.left) last start ≡ list_window n last state → OnTheWay last start (list_one state)
        go zero h e = absurd (omega (arith, one_less last state may))
        go (suc n) h e = record { n = n; enough = omega (arith, one_less last state may); same = e ∙ next_listed n last state may }

    pub way_end : may_list last state ≡ false → state ≡ list_window (length start.left) last start
    way_end may = sym (way.same ∙ none_listed way.n last state may)
