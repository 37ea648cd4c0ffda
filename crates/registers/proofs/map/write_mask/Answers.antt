-- `registers::map::write_mask` meets its contract.
use Rattle.laws.proofs.Tables.{tabulate-at}
use Rattle.registers.specs.RegisterMap.{mask_of}
use borrow.Author.Rules.{rules}
use Rattle.registers.proofs.map.write_mask.Goals as goal

pub returns : goal.returns
returns c = rw c.write_masks-masks.ensures (tabulate-at mask_of 256 c.args.offset (search rules))
