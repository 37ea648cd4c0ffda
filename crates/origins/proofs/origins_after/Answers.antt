-- `origins::origins_after` meets its contract, by the cases of the offset.
use Rattle.std.proofs.Common.{◌≡◌, length, arith, rules, sym, ◌∙◌}
use Rattle.origins.proofs.KeptOrigins.{after_none, after_shared, after_ports_lem}
use Rattle.origins.proofs.origins_after.Goals as goal

pub returns-then-write_mask-eq0 : goal.returns-then-write_mask-eq0
returns-then-write_mask-eq0 c =
    let count : length c.args.before.ports ≡ 4 = search rules in
    sym (after_none _ _ _ _ count (sym c.write_mask.ensures ∙ c.if-write_mask-eq0.true))

pub returns-then-not-is_per_port : goal.returns-then-not-is_per_port
returns-then-not-is_per_port c =
    let count : length c.args.before.ports ≡ 4 = search rules in
    let shared = sym c.is_per_port.ensures ∙ c.if-not-is_per_port.true in
    sym (after_shared _ _ _ _ count (λ e. c.if-write_mask-eq0.false (c.write_mask.ensures ∙ e)) shared)

pub returns : goal.returns
returns c =
    let paged = sym c.is_per_port.ensures ∙ c.if-not-is_per_port.false in
    let l = c.loop-port in
    after_ports_lem _ _ _ _ (search rules) (λ e. c.if-write_mask-eq0.false (c.write_mask.ensures ∙ e)) paged
    l.after l.invariant.shared l.invariant.count l.port (omega arith) l.invariant.ports
