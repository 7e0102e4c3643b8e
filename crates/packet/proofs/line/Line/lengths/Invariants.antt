use Rattle.std.proofs.Common.{◌≡◌, map, take, length}
use Rattle.packet.proofs.line.Line.lengths.Given as goal

abbrev pub invariant-loop-front : goal.invariant-loop-front
invariant-loop-front g l = l.lengths.items ≡ map (λ f. length (g.F.Fronts.log f).entries) (take l.front-index l.front-items)
