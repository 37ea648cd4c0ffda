-- `crc::shifted` meets its contract.
use borrow.Author.Rules.{rules}
use Rattle.crc.proofs.Quotient.{divided}
use Rattle.crc.proofs.shifted.Goals as goal

pub returns : goal.returns
returns c = divided c.args.register (search rules)
