use Rattle.std.proofs.Common.{◌≡◌, map, take}
use Rattle.packet.proofs.line.Line.try_clone.Given as goal

abbrev pub invariant-loop-front : goal.invariant-loop-front
invariant-loop-front g l = map g.F.Fronts.log l.fronts.items ≡ map g.F.Fronts.log (take l.front-index l.front-items)
