-- The laws of specs/AtWrites.antt: by the cases of what the write does.
-- Assumes nothing.
use Rattle.std.proofs.Common.{◌≡◌, ℕ, ◌<◌, Bool, true, false, not, ◌&&◌, ◌||◌, eqb, sym, refl, ◌∙◌, ne_eqb}
use Rattle.registers.specs.declared.RegisterFile.{RegisterFile}
use Rattle.registers.specs.RegisterMap.{mask_of, per_port}
use Rattle.ports.proofs.PortMasks.{empty_mask}
use Rattle.origins.specs.Origins.{shared_register, port_register, is_writable, FileOfBytes}
use Rattle.origins.specs.Effects.{changes, ignores_bits, effect_of}
use Rattle.origins.proofs.Reaching.{reaches_none, reaches_shared, no_shared, no_port_lem}
use Rattle.origins.proofs.FileBytes.{bytes_kept}
use Rattle.findings.specs.ByEffect.{is_not_followed, is_no_port, reached_by, ignores_by, keeps_all_by}
use Rattle.findings.specs.AtWrites.{any_port, ports_reached, any_reached, any_changed}
use Rattle.findings.specs.AtWrites.{not_followed, no_port, bits_ignored, no_change, odd_alias, odd_alias_by}
use Rattle.findings.specs.AtWrites.{PortsReachedExact, NotFollowedExact, NoPortExact, BitsIgnoredExact}
use Rattle.findings.specs.AtWrites.{NoChangeExact, OddAliasExact}
use Rattle.findings.proofs.SoFarLaws.{file_kept}
use Rattle.findings.proofs.EffectCases.{ticked, ports_changed, unwritable_shared, unchanged}
use Rattle.findings.proofs.EffectCases.{EffectCase, unfollowed, unticked, to_ports, selecting, to_shared}
use Rattle.findings.proofs.EffectCases.{effect_case, reached_none_lem, reached_ticked, reached_shared}

not-not : (b : Bool) → b ≡ not (not b)
not-not true = refl
not-not false = refl

or_false : (b : Bool) → not b ≡ not (b || false)
or_false true = refl
or_false false = refl

module _ (file : RegisterFile) (offset value : ℕ) where
  reached_at : reached_by (effect_of file offset value) ≡ ports_reached file offset
  reached_at = go (effect_case file offset value)
    where
      go : EffectCase file offset value → reached_by (effect_of file offset value) ≡ ports_reached file offset
      go (unfollowed m e) = rw e (sym (reached_none_lem file offset value m))
      go (unticked m p t e) = rw e (sym (reached_ticked file offset value m p ∙ t))
      go (to_ports m p t e) = rw e (sym (reached_ticked file offset value m p))
      go (selecting m p e) = rw e (sym (reached_shared file offset value m p))
      go (to_shared m p e) = rw e (sym (reached_shared file offset value m p))

  not_followed_at : is_not_followed (effect_of file offset value) ≡ not (is_writable offset)
  not_followed_at = go (effect_case file offset value)
    where
      go : EffectCase file offset value → is_not_followed (effect_of file offset value) ≡ not (is_writable offset)
      go (unfollowed m e) = rw (e, m)
      go (unticked m p t e) = rw (e, ne_eqb (mask_of offset) 0 m)
      go (to_ports m p t e) = rw (e, ne_eqb (mask_of offset) 0 m)
      go (selecting m p e) = rw (e, ne_eqb (mask_of offset) 0 m)
      go (to_shared m p e) = rw (e, ne_eqb (mask_of offset) 0 m)

  no_port_at : is_no_port (effect_of file offset value) ≡ (per_port offset && not (any_port (ticked file)))
  no_port_at = go (effect_case file offset value)
    where
      go : EffectCase file offset value
          → is_no_port (effect_of file offset value) ≡ (per_port offset && not (any_port (ticked file)))
      go (unfollowed m e) = rw (e, unwritable_shared offset m)
      go (unticked m p t e) = rw (e, p, t)
      go (to_ports m p t e) = rw (e, p, ne_eqb (ticked file) 0 t)
      go (selecting m p e) = rw (e, p)
      go (to_shared m p e) = rw (e, p)

  ignores_at : ignores_by (effect_of file offset value) ≡ (any_reached file offset && ignores_bits offset value)
  ignores_at = go (effect_case file offset value)
    where
      go : EffectCase file offset value
          → ignores_by (effect_of file offset value) ≡ (any_reached file offset && ignores_bits offset value)
      go (unfollowed m e) = rw (e, reaches_none file offset m (shared_register offset), reached_none_lem file offset value m)
      go (unticked m p t e) =
          rw (e, no_shared file offset m p offset, reached_ticked file offset value m p, t)
      go (to_ports m p t e) =
          rw (e, no_shared file offset m p offset, reached_ticked file offset value m p, ne_eqb (ticked file) 0 t)
      go (selecting m p e) = rw (e, reaches_shared file offset m p)
      go (to_shared m p e) = rw (e, reaches_shared file offset m p)

  module _ (f : FileOfBytes file) (small : offset < 256) where
    ports_kept : (mask_of offset ≡ 0 → ⊥) → per_port offset ≡ false → ports_changed file offset value ≡ 0
    ports_kept m p =
        (empty_mask (λ port. changes file offset value (port_register port offset))).every
        (λ port h.
        unchanged file offset value f (port_register port offset) (h, small) (no_port_lem file offset m p port offset))

    shared_kept : (mask_of offset ≡ 0 → ⊥) → per_port offset ≡ true
        → changes file offset value (shared_register offset) ≡ false
    shared_kept m p = unchanged file offset value f (shared_register offset) small (no_shared file offset m p offset)

    keeps_at : keeps_all_by (effect_of file offset value)
        ≡ (any_reached file offset && not (any_changed file offset value))
    keeps_at = go (effect_case file offset value)
      where
        go : EffectCase file offset value
            → keeps_all_by (effect_of file offset value)
            ≡ (any_reached file offset && not (any_changed file offset value))
        go (unfollowed m e) =
            rw (e, reaches_none file offset m (shared_register offset), reached_none_lem file offset value m)
        go (unticked m p t e) =
            rw (e, no_shared file offset m p offset, reached_ticked file offset value m p, t)
        go (to_ports m p t e) =
            rw (
              e,
              no_shared file offset m p offset,
              reached_ticked file offset value m p,
              ne_eqb (ticked file) 0 t,
              shared_kept m p,
            ) (not-not (eqb (ports_changed file offset value) 0))
        go (selecting m p e) =
            rw (e, reaches_shared file offset m p, ports_kept m p)
            (or_false (changes file offset value (shared_register offset)))
        go (to_shared m p e) =
            rw (e, reaches_shared file offset m p, ports_kept m p)
            (or_false (changes file offset value (shared_register offset)))

pub ports_reached_exact : PortsReachedExact
ports_reached_exact start before w = rw (file_kept start before) (reached_at _ w.offset w.value)

pub not_followed_exact : NotFollowedExact
unfolding not_followed
not_followed_exact start before w = not_followed_at _ w.offset w.value

pub no_port_exact : NoPortExact
unfolding no_port
no_port_exact start before w = rw (file_kept start before) (no_port_at _ w.offset w.value)

pub bits_ignored_exact : BitsIgnoredExact
unfolding bits_ignored
bits_ignored_exact start before w = rw (file_kept start before) (ignores_at _ w.offset w.value)

pub no_change_exact : NoChangeExact
unfolding no_change
no_change_exact start f before w small =
    rw (file_kept start before) (keeps_at _ w.offset w.value (bytes_kept start f before) small)

pub odd_alias_exact : OddAliasExact
unfolding odd_alias odd_alias_by
odd_alias_exact start before w = rw (ports_reached_exact start before w)
