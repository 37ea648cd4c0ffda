-- The laws of specs/Replaced.antt.
-- Assumes nothing.
use Rattle.std.proofs.Common.{◌≡◌, ℕ, ◌<◌, sym}
use Rattle.laws.specs.Bits.{bit}
use Rattle.registers.specs.declared.RegisterFile.{RegisterFile}
use Rattle.registers.specs.RegisterFiles.{selection}
use Rattle.ports.proofs.PortMasks.{mask_bits, empty_mask}
use Rattle.origins.specs.Origins.{port_register, FileOfBytes}
use Rattle.origins.specs.Effects.{changes, effect_of}
use Rattle.origins.proofs.Reaching.{reaches_none, reaches_unticked, no_port_lem}
use Rattle.origins.proofs.FileBytes.{bytes_kept}
use Rattle.origins.proofs.KeptOrigins.{every_origin_kept}
use Rattle.findings.specs.Blocks.{numbered_by_block}
use Rattle.findings.specs.ByEffect.{changes_port}
use Rattle.findings.specs.Replaced.{from_earlier_block, replaced, replaced_now, ReplacedExact}
use Rattle.findings.proofs.SoFarLaws.{numbers_kept, file_kept, block_kept, blocks_kept}
use Rattle.findings.proofs.EffectCases.{EffectCase, unfollowed, unticked, to_ports, selecting, to_shared}
use Rattle.findings.proofs.EffectCases.{effect_case, unchanged}

-- the effect says whether the register of a port changes
changes_at : (file : RegisterFile) → FileOfBytes file → (offset value port : ℕ) → offset < 256 → port < 4
    → changes_port (effect_of file offset value) port ≡ changes file offset value (port_register port offset)
changes_at file f offset value port ho hp = go (effect_case file offset value)
  where
    go : EffectCase file offset value
        → changes_port (effect_of file offset value) port ≡ changes file offset value (port_register port offset)
    go (unfollowed m e) =
        rw e (sym (unchanged file offset value f _ (hp, ho) (reaches_none file offset m (port_register port offset))))
    go (unticked m p t e) =
        let clear = (empty_mask (λ q. bit q (selection file))).only t port hp in
        rw e (sym (unchanged file offset value f _ (hp, ho) (reaches_unticked file offset port offset clear)))
    go (to_ports m p t e) =
        rw e ((mask_bits (λ q. changes file offset value (port_register q offset))).bits port hp)
    go (selecting m p e) =
        rw e (sym (unchanged file offset value f _ (hp, ho) (no_port_lem file offset m p port offset)))
    go (to_shared m p e) =
        rw e (sym (unchanged file offset value f _ (hp, ho) (no_port_lem file offset m p port offset)))

pub replaced_exact : ReplacedExact
unfolding replaced_now replaced from_earlier_block
replaced_exact start f before w port few ho hp =
    rw (
      file_kept start before,
      changes_at _ (bytes_kept start f before) w.offset w.value port ho hp,
      block_kept start before few,
      blocks_kept start before few,
      numbers_kept start before,
      (every_origin_kept start (numbered_by_block 0 before)).numbers (port_register port w.offset) (hp, ho),
      (every_origin_kept start before).numbers (port_register port w.offset) (hp, ho),
    )
