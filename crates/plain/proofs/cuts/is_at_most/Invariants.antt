use Rattle.std.proofs.Common.{ℕ, ◌<◌, ◌≤◌}
use Rattle.model.specs.Histories.{len_at}
use Rattle.plain.proofs.cuts.is_at_most.Given as goal

abbrev pub invariant-loop-stage : goal.invariant-loop-stage
invariant-loop-stage l = (s : ℕ) → s < l.stage → (j : ℕ) → len_at l.cut s j ≤ len_at l.other s j
