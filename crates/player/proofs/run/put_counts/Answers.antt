-- `player::run::put_counts` meets its contract: the last line has room.
use Rattle.std.proofs.Common.{◌+◌, ◌≤◌, length, arith, zero-add}
use Rattle.laws.proofs.Buffers.{read_written}
use Rattle.buffers.proofs.PutLaws.{whole_buffer, whole_place}
use Rattle.printing.specs.PrintedLines.{printed_counts}
use Rattle.printing.proofs.LineLengths.{printed_counts_short}
use Rattle.player.proofs.run.put_counts.Goals as goal

pub returns-clause-text_after : goal.returns-clause-text_after
returns-clause-text_after c =
    let x = c.args in
    let line = printed_counts x.session.records x.session.refusals in
    let short = printed_counts_short x.session.records x.session.refusals in
    let fits : 0 + length line ≤ length x.text.now = omega (arith, c.requires, short) in
    let put = c.put_printed_counts.ensures in
    rw (whole_place put fits, zero-add (length line), whole_buffer put fits) (read_written x.text.now 0 line fits)
