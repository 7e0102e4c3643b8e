use Rattle.std.proofs.Common.{◌≡◌, replicate}
use Rattle.packet.proofs.line.Line.copies.Given as goal

abbrev pub invariant-loop : goal.invariant-loop
invariant-loop g l = l.lines.items ≡ replicate l.counter l.self
