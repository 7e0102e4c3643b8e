use Rattle.std.proofs.Common.{◌≡◌, length, map, take}
use Rattle.model.proofs.lengths.Lengths.overwrite_lines.Given as goal

-- the first lines are the other's, and the rest are as long as the other's
abbrev pub invariant-loop-stage : goal.invariant-loop-stage
invariant-loop-stage l = record {
  done : take l.stage l.self ≡ take l.stage l.other;
  shape : map length l.self ≡ map length l.other;
}
