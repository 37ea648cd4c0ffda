-- `crc::slide` meets its contract.
use borrow.Author.Rules.{rules}
use Rattle.crc.proofs.Windows.{slid}
use Rattle.crc.proofs.slide.Goals as goal

pub returns : goal.returns
returns c =
    let w = c.args.window in
    slid w.first w.second w.third w.fourth _ (search rules)
