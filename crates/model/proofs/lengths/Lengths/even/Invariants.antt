use Rattle.std.proofs.Common.{◌≡◌, replicate}
use Rattle.model.proofs.lengths.Lengths.even.Given as goal

abbrev pub invariant-loop-stage : goal.invariant-loop-stage
invariant-loop-stage l = l.lengths ≡ replicate l._stage l.line
