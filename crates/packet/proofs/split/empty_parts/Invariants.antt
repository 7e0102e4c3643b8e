use Rattle.std.proofs.Common.{◌≡◌, [], map, replicate}
use Rattle.packet.proofs.split.empty_parts.Given as goal

abbrev pub invariant-loop : goal.invariant-loop
invariant-loop l = map (λ w. w.items) l.parts.items ≡ replicate l.counter []
