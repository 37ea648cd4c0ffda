-- The last write of a list that ticks a port.
-- Assumes nothing.
use Rattle.std.proofs.Common.{◌≡◌, ℕ, Bool, true, false, cond, List, [], ◌∷◌, ◌++◌, refl, ap, ◌∙◌}
use mathlib.Core.List.Memᴰ
use mathlib.Core.List.{Memᴰ}
use mathlib.Core.Option.{Option, none, some}
use Rattle.laws.proofs.Absurd.{zero_not_one}
use Rattle.origins.specs.declared.NumberedWrite.{NumberedWrite}
use Rattle.origins.specs.Origins.{later_or}
use Rattle.ordering.specs.Ticks.{ticks_port, last_ticking, LastOf, LastTickingExact}

module _ (port : ℕ) where
  -- where the search finds none, no write ticks the port
  nowhere : (ws : List NumberedWrite) → last_ticking port ws ≡ none
      → (u : NumberedWrite) → Memᴰ u ws → ticks_port port u ≡ false
  unfolding last_ticking
  nowhere [] e u m = absurd (Memᴰ.not-nil m)
  nowhere (w ∷ ws) e u m = go (last_ticking port ws) (ticks_port port w) refl refl e m (nowhere ws)
    where
      go : (o : Option NumberedWrite) (b : Bool) → last_ticking port ws ≡ o → ticks_port port w ≡ b
          → later_or o (cond b (some w) none) ≡ none → Memᴰ u (w ∷ ws)
          → (last_ticking port ws ≡ none → (v : NumberedWrite) → Memᴰ v ws → ticks_port port v ≡ false)
          → ticks_port port u ≡ false
      go (some v) b eo eb q k rest = zero_not_one (cc)
      go none true eo eb q k rest = zero_not_one (cc)
      go none false eo eb q (Memᴰ.head h) rest = ap (ticks_port port) h ∙ eb
      go none false eo eb q (Memᴰ.tail k) rest = rest eo u k

  -- what it finds is the last
  found : (ws : List NumberedWrite) (w : NumberedWrite) → last_ticking port ws ≡ some w → LastOf port ws w
  unfolding last_ticking
  found [] w e = zero_not_one (cc)
  found (v ∷ ws) w e = go (last_ticking port ws) (ticks_port port v) refl refl e (found ws w)
    where
      go : (o : Option NumberedWrite) (b : Bool) → last_ticking port ws ≡ o → ticks_port port v ≡ b
          → later_or o (cond b (some v) none) ≡ some w → (last_ticking port ws ≡ some w → LastOf port ws w)
          → LastOf port (v ∷ ws) w
      go (some u) b eo eb q rest =
          let r = rest (eo ∙ q) in
          record {
            before = v ∷ r.before;
            after = r.after;
            parts = ap (λ (l : List NumberedWrite). v ∷ l) r.parts;
            ticks = r.ticks;
            later = r.later;
          }
      go none true eo eb q rest =
          let same : v ≡ w = cc in
          rw (← same) (record { before = []; after = ws; parts = refl; ticks = eb; later = nowhere ws eo })
      go none false eo eb q rest = zero_not_one (cc)

  -- and the last is found
  no_later : (ws : List NumberedWrite) → ((u : NumberedWrite) → Memᴰ u ws → ticks_port port u ≡ false)
      → last_ticking port ws ≡ none
  unfolding last_ticking
  no_later [] h = refl
  no_later (w ∷ ws) h = rw (no_later ws (λ u m. h u (Memᴰ.tail m)), h w (Memᴰ.head refl))

  in_front : (before ws : List NumberedWrite) (w : NumberedWrite) → last_ticking port ws ≡ some w
      → last_ticking port (before ++ ws) ≡ some w
  unfolding last_ticking
  in_front [] ws w e = e
  in_front (v ∷ before) ws w e = rw (in_front before ws w e)

  last_found : (ws : List NumberedWrite) (w : NumberedWrite) → LastOf port ws w → last_ticking port ws ≡ some w
  unfolding last_ticking
  last_found ws w l =
      rw l.parts (in_front l.before (w ∷ l.after) w (rw (no_later l.after l.later, l.ticks)))

pub last_ticking_exact : LastTickingExact
last_ticking_exact port ws = record { only = found port ws; every = last_found port ws; nowhere = nowhere port ws }
