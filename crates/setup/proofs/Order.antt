-- Demand 3, proved.
-- Assumes nothing.
use mathlib.Core.Path.{◌≡◌, refl, sym, ◌∙◌}
use mathlib.Core.List.{List}
use native.Mathlib.Omega.{arith}
use Rattle.registers.specs.declared.RegisterFile.{RegisterFile}
use Rattle.registers.specs.declared.PageAccess.TheVariants.{Selection}
use Rattle.registers.specs.RegisterMap.{FWD_CTL1, FPD3_PORT_SEL}
use Rattle.registers.specs.Bursts.{write_each}
use Rattle.registers.proofs.PageWrites.{same_pages}
use Rattle.hub.specs.declared.Hub.{Hub}
use Rattle.hub.specs.Hubs.{ArrayLengths, with_registers}
use Rattle.hub.proofs.Routes.{same_route}
use Rattle.translation.proofs.Laws.{same_write_answer}
use Rattle.setup.specs.SetupBlocks.{Block, SetupBlocks}
use Rattle.setup.specs.Demand3.{SameShared, Alike, EndsAs, Demand3}
use Rattle.setup.proofs.Runs.{block_registers, all_writes, blocks_registers}
use Rattle.setup.proofs.Runs.{after_blocks, after_block, after_blocks_lem}
use Rattle.setup.proofs.Selecting.{same_selecting, only_selecting, none_selecting, reordered}

-- routes and answers to a write depend on the pages, FWD_CTL1 and the own address alone
pub alike : (hub : Hub) (a b : RegisterFile) → a.pages ≡ b.pages
    → SameShared (with_registers hub a) (with_registers hub b) → Alike (with_registers hub a) (with_registers hub b)
alike hub a b pages shared =
    record {
      pages = pages;
      shared = shared;
      frames = refl;
      routes = same_route a b (shared FWD_CTL1 (λ (e : FWD_CTL1 ≡ FPD3_PORT_SEL). omega arith)) pages;
      writes = same_write_answer (with_registers hub a) (with_registers hub b) pages refl;
    }

ends : (start : Hub) → ArrayLengths start → (blocks : List Block) → SetupBlocks blocks
    → EndsAs start blocks (with_registers start (write_each Selection start.registers (all_writes blocks)))
unfolding after_blocks
ends start lengths blocks k =
    let a = after_blocks_lem start.registers lengths.shared lengths.pages blocks k.formed in
    record {
      selection = a.selection;
      selected = λ port block hp m s.
          (let r = after_block start.registers lengths.shared lengths.pages block (k.formed block m) in
          rw (block_registers start block)
          (record {
            page = λ offset ho. a.register port offset hp ho
                ∙ rw (only_selecting port m s (k.disjoint port hp)) (sym (r.register port offset hp ho ∙ rw s));
            frame = refl;
          }));
      unselected = λ port hp none. record {
        page = λ offset ho. a.register port offset hp ho ∙ rw (none_selecting port blocks none);
        frame = refl;
      };
      frames = refl;
      shared = a.shared;
      address = refl;
    }

pub demand_3 : Demand3
demand_3 start lengths blocks order k d =
    let l = reordered d k in
    let a = after_blocks_lem start.registers lengths.shared lengths.pages blocks k.formed in
    let b = after_blocks_lem start.registers lengths.shared lengths.pages order l.formed in
    rw (blocks_registers start blocks, blocks_registers start order) (
      alike start _ _
          (same_pages _ _ a.page_count b.page_count
          (λ port offset hp ho. a.register port offset hp ho
          ∙ rw (same_selecting port d (k.disjoint port hp)) (sym (b.register port offset hp ho))))
          (λ offset ne. a.shared offset ne ∙ sym (b.shared offset ne)),
      ends start lengths order l,
    )
