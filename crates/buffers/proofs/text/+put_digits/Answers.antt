-- `buffers::text::put_digits`, which calls itself, meets its contract: the last digit after the others.
use Rattle.buffers.proofs.PutLaws.{put_nothing, put_then_lem}
use Rattle.buffers.proofs.NumeralLaws.{decimal_none, decimal_one, decimal_more}
use Rattle.buffers.proofs.text.+put_digits.Goals as goal

pub returns-then-most-eq0 : goal.returns-then-most-eq0
returns-then-most-eq0 t c =
    let a = c.args in
    rw (decimal_none a.most a.n c.if-most-eq0.true) (put_nothing a.out.now a.at)

pub returns-then-n-lt10 : goal.returns-then-n-lt10
returns-then-n-lt10 t c =
    let a = c.args in
    rw (decimal_one a.most a.n c.if-most-eq0.false c.if-n-lt10.true) c.put_byte.ensures

pub returns : goal.returns
returns t c =
    let a = c.args in
    let both = put_then_lem c.put_digits-next.ensures c.put_byte-2.ensures in
    rw (decimal_more a.most a.n c.if-most-eq0.false c.if-n-lt10.false) both
