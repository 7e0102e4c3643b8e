use Rattle.std.proofs.Common.{ℕ, ◌<◌}
use Rattle.model.proofs.Sources.{IsIn}
use Rattle.model.proofs.places.place_of.Given as goal

abbrev pub invariant-loop-table : goal.invariant-loop-table
invariant-loop-table l = (t : ℕ) → t < l.table → IsIn l.plan t l.base → ⊥
