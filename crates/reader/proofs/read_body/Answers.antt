-- `reader::read_body` meets its contract, by the cases of the definition.
use mathlib.Core.Path.{◌≡◌, sym, ◌∙◌}
use mathlib.Core.Bool.{Bool, false, cond}
use Rattle.laws.specs.Reply.{refused, given}
use Rattle.csi2.specs.Packets.{is_short}
use Rattle.reader.specs.Reader.{header_packet, read_body}
use Rattle.reader.proofs.ReaderLaws.{short_accepted, body_cut, body_whole}
use Rattle.reader.proofs.read_body.Goals as goal
use Rattle.reader.proofs.read_body.Goals.{After-checksum_matches, Else-is_short}

-- the packet is long after the first test
long : (e : Else-is_short) → is_short (header_packet e.args.read).data_identifier ≡ false
long e = sym e.is_short.ensures ∙ e.if-is_short.false

-- after both tests, by the checksum
summed : (k : After-checksum_matches) {right : Bool} → k.checksum_matches.result ≡ right → let packet = header_packet k.args.read in
    read_body k.args.body.now packet ≡ cond right (given packet) (refused 11)
summed k e = body_whole _ _ (sym k.is_short.ensures ∙ k.if-is_short.false) k.if-body-end.false (sym k.checksum_matches.ensures ∙ e)

pub returns-then-is_short : goal.returns-then-is_short
returns-then-is_short c = sym (short_accepted _ _ (sym c.is_short.ensures ∙ c.if-is_short.true))

pub returns-then-body-end : goal.returns-then-body-end
returns-then-body-end c = sym (body_cut _ _ (long ((goal.at.returns-then-body-end c).Else-is_short)) c.if-body-end.true)

pub returns-then-not-checksum_matches : goal.returns-then-not-checksum_matches
returns-then-not-checksum_matches c = sym (summed ((goal.at.returns-then-not-checksum_matches c).After-checksum_matches) (c.if-not-checksum_matches.true))

pub returns : goal.returns
returns c = sym (summed ((goal.at.returns c).After-checksum_matches) (c.if-not-checksum_matches.false))
