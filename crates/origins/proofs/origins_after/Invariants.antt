-- `origins::origins_after` meets its contract. The loop's invariant: the ports below have their number after the write.
use Rattle.std.proofs.Common.{◌≡◌, ℕ, ◌&&◌, cond, ltb, length, get_or}
use Rattle.laws.specs.Bits.{bit}
use Rattle.registers.specs.RegisterFiles.{selection}
use Rattle.origins.proofs.origins_after.Given as goal

abbrev pub invariant-loop-port : goal.invariant-loop-port
invariant-loop-port l = record {
  shared : l.after.shared ≡ l.fn.before.shared;
  count : length l.after.ports ≡ 4;
  ports : (k : ℕ) → get_or l.after.ports k 0
      ≡ cond (ltb k l.port && bit k (selection l.fn.file)) l.write.number (get_or l.fn.before.ports k 0);
}
