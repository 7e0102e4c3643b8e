use Rattle.std.proofs.Common.{◌≡◌, map, take}
use Rattle.model.proofs.lengths.Lengths.lines_apart.Given as goal

abbrev pub invariant-loop-stage : goal.invariant-loop-stage
invariant-loop-stage l = map (λ v. v.items) l.lines.items ≡ take l.stage l.self
