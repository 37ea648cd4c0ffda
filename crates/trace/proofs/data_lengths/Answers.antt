-- `trace::data_lengths` meets its contract, row by row.
use mathlib.Core.Path.{refl}
use native.Mathlib.Omega.{arith}
use Rattle.trace.specs.Records.{kind_row_in, kind_rows}
use Rattle.trace.proofs.KindLaws.{NoRow, no_row}
use Rattle.trace.proofs.data_lengths.Goals as goal

pub returns-in-0 : goal.returns-in-0
unfolding kind_row_in kind_rows
returns-in-0 c = rw c.in-0.is (record { least = refl; most = refl })

pub returns-in-1 : goal.returns-in-1
unfolding kind_row_in kind_rows
returns-in-1 c = rw c.in-1.is (record { least = refl; most = refl })

pub returns-in-2 : goal.returns-in-2
unfolding kind_row_in kind_rows
returns-in-2 c = rw c.in-2.is (record { least = refl; most = refl })

pub returns-in-3 : goal.returns-in-3
unfolding kind_row_in kind_rows
returns-in-3 c = rw c.in-3.is (record { least = refl; most = refl })

pub returns-in-16 : goal.returns-in-16
unfolding kind_row_in kind_rows
returns-in-16 c = rw c.in-16.is (record { least = refl; most = refl })

pub returns-in-17 : goal.returns-in-17
unfolding kind_row_in kind_rows
returns-in-17 c = rw c.in-17.is (record { least = refl; most = refl })

pub returns-in-18 : goal.returns-in-18
unfolding kind_row_in kind_rows
returns-in-18 c = rw c.in-18.is (record { least = refl; most = refl })

pub returns-in_default : goal.returns-in_default
unfolding kind_row_in kind_rows
returns-in_default c =
    let none : NoRow Unit kind_rows c.args.kind = (((((((tt, omega arith), omega arith), omega arith), omega arith), omega arith), omega arith), omega arith) in
    rw (no_row kind_rows c.args.kind none).1 (record { least = refl; most = refl })
