use Rattle.std.proofs.Common.{◌≡◌, ℕ, ◌<◌, length}
use Rattle.model.specs.Histories.{len_at}
use Rattle.model.specs.Places.{sources, source_at}
use Rattle.plain.proofs.own.is_past.Given as goal

abbrev pub invariant-loop-stage : goal.invariant-loop-stage
invariant-loop-stage l = (s : ℕ) → s < l.stage → (j : ℕ) → j < length (sources l.plan) → source_at l.plan j ≡ l.place.base → l.place.index < len_at l.cut s j
