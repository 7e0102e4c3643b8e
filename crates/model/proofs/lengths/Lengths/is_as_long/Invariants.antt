use Rattle.std.proofs.Common.{◌≡◌, length, map, take}
use Rattle.model.proofs.lengths.Lengths.is_as_long.Given as goal

abbrev pub invariant-loop-stage : goal.invariant-loop-stage
invariant-loop-stage l = take l.stage (map length l.self) ≡ take l.stage (map length l.other)
